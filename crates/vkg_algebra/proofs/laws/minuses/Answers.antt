use Rattle.vkg_algebra.proofs.MapLemmas.{is_minus}
use Rattle.vkg_algebra.proofs.laws.minuses.Goals as goal

pub returns : goal.returns
returns c = λ ls rs. is_minus ls rs
