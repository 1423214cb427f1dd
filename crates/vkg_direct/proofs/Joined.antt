-- Names with a byte between them.
use Rattle.std.proofs.Common.{◌≡◌, ◌∙◌, ℕ, ap, List, ◌∷◌, ◌++◌, map, flat_map}
use Rattle.std.specs.List.{join_with_byte}
use Rattle.std.proofs.lemmas.List.Folds.{flat_map-map}
use Rattle.vkg_lists.proofs.Texts.{joined_is as joined_texts}

pub joined_is : {X : Type 0} (b : ℕ) (f : X → List ℕ) (x : X) (xs : List X) → join_with_byte b (map f (x ∷ xs)) ≡ f x ++ flat_map (λ y. b ∷ f y) xs
joined_is b f x xs = joined_texts b (f x) (map f xs) ∙ ap (λ l. f x ++ l) (flat_map-map (λ t. b ∷ t) f xs)
