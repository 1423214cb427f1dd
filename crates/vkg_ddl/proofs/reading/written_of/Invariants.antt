use Rattle.std.proofs.Common.{◌≡◌, [], drop}
use Rattle.vkg_ddl.specs.Reading.{written_of}
use Rattle.vkg_ddl.proofs.reading.written_of.Given as goal

abbrev pub invariant-loop-note : goal.invariant-loop-note
invariant-loop-note l = written_of (drop l.note-index l.notes) l.rest l.tables ≡ written_of l.notes l.fn.tokens []
