use Rattle.std.proofs.Common.{arith, length-take}
use Rattle.vkg_base.proofs.Sources.{filled, ended}
use Rattle.vkg_base.proofs.host_store.read_up_to.Goals as goal

pub returns-then-room-eq0-clause-bytes : goal.returns-then-room-eq0-clause-bytes
returns-then-room-eq0-clause-bytes g c = filled _ _ _ _ c.loop.invariant.bytes (omega (arith, c.loop.invariant.room, c.min-room.ensures, c.if-room-eq0.true))

pub returns-in-Ok-eq0-clause-bytes : goal.returns-in-Ok-eq0-clause-bytes
returns-in-Ok-eq0-clause-bytes g c = ended _ _ _ _ _ _ _ c.loop.invariant.bytes c.in-Ok-eq0.ensures.bytes c.in-Ok-eq0.field-0-test (omega (arith, c.read.auto.buf, c.loop.auto.buffer, c.min-room.ensures, c.if-room-eq0.false, c.requires, length-take c.min-room.result c.loop.buffer)) (omega (arith, c.loop.invariant.room))

pub returns-clause-bytes : goal.returns-clause-bytes
returns-clause-bytes g c = filled _ _ _ _ c.loop.invariant.bytes (omega (arith, c.loop.invariant.room, c.loop.invariant.turns, c.loop-test.false))
