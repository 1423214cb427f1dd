use Rattle.vkg_schema.specs.Resolve.{pair_at}
use Rattle.vkg_schema.proofs.Ranges.{one_more}
use Rattle.vkg_schema.proofs.resolve.pairs_at.Goals as goal

pub loop-i-preserved : goal.loop-i-preserved
loop-i-preserved c = one_more (pair_at c.args.left_columns.now c.args.right_columns.now c.args.left.now c.args.right.now) c.loop-i.i c.loop-i.out c.push.new.self c.pair_at.result c.in_ok-push.ensures.ok c.loop-i.invariant c.pair_at.ensures
