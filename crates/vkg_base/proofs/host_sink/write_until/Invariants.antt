use Rattle.std.proofs.Common.{◌≤◌, length, take}
use Rattle.std.specs.Io.KnownBytes.{Appends}
use Rattle.vkg_base.proofs.host_sink.write_until.Given as goal

abbrev pub invariant-loop : goal.invariant-loop
invariant-loop g l = (l.done ≤ length l.piece) × Appends (g.W.Write.contents l.initial.writer) (g.W.Write.contents l.writer) (take l.done l.piece)
