use Rattle.vkg_written.proofs.TriplesMaps.{read_is_writable}
use Rattle.vkg_written.proofs.Written.{document_is_writable}
use Rattle.vkg_written.proofs.reading.mappings.Goals as goal

pub returns : goal.returns
returns c = λ bytes against triples schema base mapping d e. read_is_writable triples schema base mapping (document_is_writable bytes against triples d) e
