use Rattle.vkg_schema.proofs.One.{determined}
use Rattle.vkg_schema.proofs.reading.is_determined.Goals as goal

pub returns : goal.returns
returns c = determined
