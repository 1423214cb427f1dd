-- None, one, or several.
use Rattle.std.proofs.Common.{◌≡◌, ◌≢◌, refl, List, [], ◌∷◌, ◌++◌}
use Rattle.vkg_terms.specs.declared.term.Term.{Term}
use Rattle.vkg_term_maps.specs.declared.values.Values.TheVariants.{Several}
use Rattle.vkg_term_maps.specs.TermMaps.{counted}

pub counted_several : (ts : List Term) (t : Term) → ts ≢ [] → counted (ts ++ t ∷ []) ≡ Several
counted_several [] t some = absurd (some refl)
counted_several (u ∷ []) t some = refl
counted_several (u ∷ v ∷ ts) t some = refl
