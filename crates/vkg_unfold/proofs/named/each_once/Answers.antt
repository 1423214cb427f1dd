use Rattle.std.proofs.Common.{◌<◌, get_or, length, arith, rules}
use Rattle.std.specs.Prelude.{None}
use Rattle.std.proofs.lemmas.Grind.{common_steps}
use Rattle.vkg_unfold.proofs.Steps.{name_once}
use Rattle.vkg_unfold.proofs.named.each_once.Goals as goal

pub loop-i-preserved : goal.loop-i-preserved
loop-i-preserved c =
    let inside : c.loop-i.i < length c.args.names.now = omega arith in
    name_once c.args.names.now c.loop-i.found c.push_new.new.found _ c.loop-i.i (get_or c.args.names.now c.loop-i.i None) None c.in_ok-push_new.ensures (first_of (cc, search rules, grind (arith, common_steps))) (first_of (cc, search rules, grind (arith, common_steps))) inside c.loop-i.invariant
