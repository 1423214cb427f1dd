use Rattle.std.proofs.Common.{arith}
use Rattle.vkg_plain.proofs.Maps.{minus_more}
use Rattle.vkg_plain.proofs.minus.minus.Goals as goal

pub loop-l-preserved : goal.loop-l-preserved
loop-l-preserved c =
    minus_more c.args.ls.now c.args.rs.now c.l-item.result c.as_slice.result.now c.loop-l.l-index c.loop-l.out c.add_if_staying.new.out
    (omega arith) c.l-item.is c.as_slice.ensures c.loop-l.invariant c.in_ok-add_if_staying.ensures
