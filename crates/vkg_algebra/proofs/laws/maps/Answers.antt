use Rattle.vkg_algebra.proofs.MapLemmas.{keeps_maps}
use Rattle.vkg_algebra.proofs.laws.maps.Goals as goal

pub returns : goal.returns
returns c = λ l r. keeps_maps l r
