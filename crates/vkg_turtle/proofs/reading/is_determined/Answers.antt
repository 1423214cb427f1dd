use Rattle.vkg_turtle.proofs.One.{determined}
use Rattle.vkg_turtle.proofs.reading.is_determined.Goals as goal

pub returns : goal.returns
returns c = determined
