-- A plan's columns are counted once.
use Rattle.std.proofs.Common.{arith}
use Rattle.vkg_keys.proofs.Counted.{counted}
use Rattle.vkg_keys.proofs.members.kinds.Goals as goal

pub loop-i-preserved : goal.loop-i-preserved
loop-i-preserved c =
    counted c.args.schema.now c.args.ps.now c.loop-i.i c.index-ps-i.result c.loop-i.all c.or_none.result (omega arith) c.index-ps-i.is c.in_ok-plan_kinds.ensures.kinds c.in_ok-append.ensures.ok c.or_none.ensures
    c.loop-i.invariant
