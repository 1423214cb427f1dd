use Rattle.std.proofs.Common.{◌<◌, map, length, arith, rules}
use Rattle.std.proofs.lemmas.Grind.{common_steps}
use Rattle.vkg_expr.specs.Seen.{expr_seen}
use Rattle.vkg_unfold.proofs.Steps.{column_once}
use Rattle.vkg_unfold.proofs.named.first_places.Goals as goal

pub loop-i-preserved : goal.loop-i-preserved
loop-i-preserved c =
    let inside : c.loop-i.i < length c.args.list.now = omega arith in
    column_once c.args.list.now _ c.loop-i.i c.index-list-i.result (map expr_seen c.loop-i.found) (map expr_seen c.push_first.new.found) c.in_ok-push_first.ensures (first_of (cc, search rules, grind (arith, common_steps))) c.index-list-i.is inside c.loop-i.invariant
