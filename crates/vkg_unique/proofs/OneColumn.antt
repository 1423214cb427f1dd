-- Lists of one column, and others.
use Rattle.std.proofs.Common.{◌≡◌, ◌≢◌, ℕ, true, false, List, [], ◌∷◌, length, refl, arith}
use Rattle.vkg_unique.specs.Recovered.{is_one}

pub one_alone : (columns : List ℕ) → length columns ≡ 1 → is_one columns ≡ true
one_alone [] h = absurd (omega (arith, h))
one_alone (n ∷ []) h = refl
one_alone (n ∷ m ∷ columns) h = absurd (omega (arith, h))

pub none_or_more : (columns : List ℕ) → length columns ≢ 1 → is_one columns ≡ false
none_or_more [] h = refl
none_or_more (n ∷ []) h = absurd (h refl)
none_or_more (n ∷ m ∷ columns) h = refl
