-- Pairs of which one side was kept by a test are the pairs that a test on that side keeps.
use Rattle.std.proofs.Common.{◌≡◌, ◌∙◌, Bool, true, false, cond, List, [], ◌∷◌, map, refl, sym, ap}
use Rattle.std.specs.List.{AllByRecursion, filter, flat_map}
use Rattle.vkg_lists.proofs.Members.{each_from_recursion, flat_map_agree_on}
use Rattle.vkg_lists.proofs.Walks.{filter-flat_map, filter-map, flat_map-filter}
use Rattle.vkg_lists.specs.Lists.{pairs_with}

filter_all : {A : Type 0} (b : Bool) (xs : List A) → filter (λ x. b) xs ≡ cond b xs []
filter_all true [] = refl
filter_all true (x ∷ xs) = ap (λ l. x ∷ l) (filter_all true xs)
filter_all false [] = refl
filter_all false (x ∷ xs) = filter_all false xs

map_cond : {A B : Type 0} (f : A → B) (b : Bool) (xs : List A) → map f (cond b xs []) ≡ cond b (map f xs) []
map_cond f true xs = refl
map_cond f false xs = refl

module _ {A B C : Type 0} (op : A → B → C) where
  -- a test of the pairs is one of the second for each first
  by_first : (q : C → Bool) (xs : List A) (ys : List B) → filter q (pairs_with op xs ys) ≡ flat_map (λ x. map (λ y. op x y) (filter (λ y. q (op x y)) ys)) xs
  by_first q xs ys = filter-flat_map q (λ x. map (λ y. op x y) ys) xs ∙ (λ i. flat_map (λ x. filter-map q (λ y. op x y) ys i) xs)

  pub right_kept : (P : A → Type 0) (p : B → Bool) (q : C → Bool) → ((x : A) → P x → (y : B) → p y ≡ q (op x y)) → (xs : List A) → AllByRecursion P xs → (ys : List B) →
      pairs_with op xs (filter p ys) ≡ filter q (pairs_with op xs ys)
  right_kept P p q h xs all ys =
      flat_map_agree_on (λ x. map (λ y. op x y) (filter p ys)) (λ x. map (λ y. op x y) (filter (λ y. q (op x y)) ys)) xs
      (λ x c. λ i. map (λ y. op x y) (filter (λ y. h x (each_from_recursion P xs all x c) y i) ys))
      ∙ sym (by_first q xs ys)

  pub left_kept : (P : A → Type 0) (p : A → Bool) (q : C → Bool) → ((x : A) → P x → (y : B) → p x ≡ q (op x y)) → (xs : List A) → AllByRecursion P xs → (ys : List B) →
      pairs_with op (filter p xs) ys ≡ filter q (pairs_with op xs ys)
  left_kept P p q h xs all ys =
      flat_map-filter (λ x. map (λ y. op x y) ys) p xs
      ∙ flat_map_agree_on (λ x. cond (p x) (map (λ y. op x y) ys) []) (λ x. map (λ y. op x y) (filter (λ y. q (op x y)) ys)) xs
      (λ x c. sym (map_cond (λ y. op x y) (p x) ys) ∙ ap (map (λ y. op x y)) (sym (filter_all (p x) ys) ∙ (λ i. filter (λ y. h x (each_from_recursion P xs all x c) y i) ys)))
      ∙ sym (by_first q xs ys)
