use Rattle.vkg_sparql.proofs.One.{determined}
use Rattle.vkg_sparql.proofs.reading.is_determined.Goals as goal

pub returns : goal.returns
returns c = determined
