-- The next name is one further.
use Rattle.std.proofs.Common.{map}
use Rattle.vkg_expr.specs.Seen.{expr_seen}
use Rattle.vkg_key_joins.proofs.TiedNames.{one_more}
use Rattle.vkg_key_joins.proofs.parent_names.all_tied_to.Goals as goal

pub loop-y-preserved : goal.loop-y-preserved
loop-y-preserved c =
    one_more (map expr_seen c.args.child.now) c.args.pairs.now c.loop-y.y c.loop-y.all c.in_ok-tied_to.field-0 c.in_ok-push.ensures.ok c.loop-y.invariant c.in_ok-tied_to.ensures
