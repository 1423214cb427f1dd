use Rattle.vkg_written.proofs.Written.{document_is_writable}
use Rattle.vkg_written.proofs.reading.documents.Goals as goal

pub returns : goal.returns
returns c = λ bytes base triples d. document_is_writable bytes base triples d
