-- The rows before a place, and the one there.
use Rattle.std.proofs.Common.{◌≡◌, ◌∙◌, ℕ, ◌+◌, List, [], ◌∷◌, ◌++◌, map, take, slice_get, Some, ap, sym}
use Rattle.std.proofs.lemmas.List.{map_more}
use Rattle.std.proofs.lemmas.Option.{get_or_from_slice_get, slice_get_within}

pub one_more : {A B : Type 0} (f : A → B) (xs : List A) (i : ℕ) (x : A) → slice_get xs i ≡ Some x → map f (take (i + 1) xs) ≡ map f (take i xs) ++ f x ∷ []
one_more f xs i x e =
    let h = slice_get_within xs i x e in
    map_more f xs i x h ∙ ap (λ y. map f (take i xs) ++ f y ∷ []) (get_or_from_slice_get xs i x x e)

-- what is pushed for one row more
pub pushed : {A B : Type 0} (f : A → B) (xs : List A) (i : ℕ) (x : A) (old new : List B) (y : B) → slice_get xs i ≡ Some x → old ≡ map f (take i xs) → y ≡ f x → new ≡ old ++ y ∷ [] → new ≡ map f (take (i + 1) xs)
pushed f xs i x old new y e o is n = n ∙ (λ j. o j ++ is j ∷ []) ∙ sym (one_more f xs i x e)
