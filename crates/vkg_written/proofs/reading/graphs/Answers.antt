use Rattle.vkg_written.proofs.TriplesMaps.{read_is_writable}
use Rattle.vkg_written.proofs.reading.graphs.Goals as goal

pub returns : goal.returns
returns c = λ triples schema base mapping fine e. read_is_writable triples schema base mapping fine e
