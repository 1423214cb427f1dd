use Rattle.vkg_r2rml.proofs.Within.{read_is_within}
use Rattle.vkg_r2rml.proofs.laws.mappings.Goals as goal

pub returns : goal.returns
returns c = λ triples schema base mapping e. read_is_within triples schema base mapping e
