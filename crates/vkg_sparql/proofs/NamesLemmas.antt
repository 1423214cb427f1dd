-- The texts of a set of strings, and a place among them.
use Rattle.std.proofs.Common.{◌≡◌, ◌∙◌, ◌++◌, ℕ, Bool, true, false, List, [], ◌∷◌, if◌then◌else◌, map, ap, refl, sym}
use Rattle.std.proofs.lemmas.List.{map-append}
use Rattle.std.specs.List.{list_any}
use Rattle.vkg_lists.proofs.Walks.{list_any-map}
use Rattle.indexmap.specs.IndexSet.{insert_key}

module _ {X : Type 0} (text : X → List ℕ) where
  insert-map : (b : Bool) (xs : List X) (x : X) → map text (if b then xs else xs ++ x ∷ []) ≡ (if b then map text xs else map text xs ++ text x ∷ [])
  insert-map true xs x = refl
  insert-map false xs x = map-append text xs (x ∷ [])

  pub insert_key-map : (eq : List ℕ → List ℕ → Bool) (xs : List X) (x : X)
      → map text (insert_key (λ a b. eq (text a) (text b)) xs x) ≡ insert_key eq (map text xs) (text x)
  insert_key-map eq xs x = insert-map (list_any (λ y. eq (text x) (text y)) xs) xs x
      ∙ ap (λ b. if b then map text xs else map text xs ++ text x ∷ []) (sym (list_any-map (eq (text x)) text xs))
