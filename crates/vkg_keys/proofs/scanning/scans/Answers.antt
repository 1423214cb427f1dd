-- A member is looked at once; at the end none is left.
use Rattle.std.proofs.Common.{arith}
use Rattle.vkg_keys.proofs.Scanned.{none-left, one-scanned}
use Rattle.vkg_keys.proofs.scanning.scans.Goals as goal

pub loop-i-preserved : goal.loop-i-preserved
loop-i-preserved c = one-scanned c.args.ps.now c.loop-i.i c.index-ps-i.result c.loop-i.all (omega arith) c.index-ps-i.is c.in_ok-all.ensures c.loop-i.invariant

pub returns : goal.returns
returns c = none-left c.args.ps.now c.loop-i.i c.loop-i.all (omega arith) c.loop-i.invariant
