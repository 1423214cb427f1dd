use Rattle.vkg_quads.proofs.DumpLaws.{line_for_each}
use Rattle.vkg_written.proofs.TriplesMaps.{read_is_writable}
use Rattle.vkg_written.proofs.Written.{document_is_writable}
use Rattle.vkg_written.proofs.reading.lines.Goals as goal

pub returns : goal.returns
returns c = λ bytes against triples base mapping db d e meets.
    line_for_each mapping db meets (read_is_writable triples db.schema base mapping (document_is_writable bytes against triples d) e)
