-- Lists without an element, and what of a list is none.
use Rattle.std.proofs.Common.{◌≡◌, ◌∙◌, Bool, true, false, cond, not, ◌&&◌, true≢false, ⊎_elim, List, [], ◌∷◌, ◌++◌, map, None, refl, sym, ap}
use Rattle.std.specs.List.{Contains, filter, flat_map, list_all}
use Rattle.vkg_lists.specs.Firsts.{first_of}
use Rattle.vkg_lists.specs.Lists.{is_empty}
use Rattle.vkg_lists.proofs.Members.{Contains-none, Contains-here, Contains-there, Contains-cons_cases}

module _ {A : Type 0} where
  pub left_nothing : (xs ys : List A) → xs ++ ys ≡ [] → xs ≡ []
  left_nothing [] ys e = refl
  left_nothing (x ∷ xs) ys e = cc

  pub right_nothing : (xs ys : List A) → xs ++ ys ≡ [] → ys ≡ []
  right_nothing [] ys e = e
  right_nothing (x ∷ xs) ys e = cc

  pub first_nothing : (xs : List A) → first_of xs ≡ None → xs ≡ []
  first_nothing [] e = refl
  first_nothing (x ∷ xs) e = cc

  -- a list is not empty exactly where it has an element
  pub member_there : (xs : List A) → not (is_empty xs) ≡ true → (x : A) × Contains xs x
  member_there [] h = absurd (true≢false (sym h))
  member_there (x ∷ xs) h = (x, Contains-here x xs)

  pub there_member : (xs : List A) (x : A) → Contains xs x → not (is_empty xs) ≡ true
  there_member [] x c = absurd (Contains-none x c)
  there_member (y ∷ xs) x c = refl

  pub is_empty-filter : (p : A → Bool) (xs : List A) → is_empty (filter p xs) ≡ list_all (λ x. not (p x)) xs
  is_empty-filter p [] = refl
  is_empty-filter p (x ∷ xs) = by (p x) (is_empty-filter p xs)
    where
      by : (b : Bool) → is_empty (filter p xs) ≡ list_all (λ y. not (p y)) xs → is_empty (cond b (x ∷ filter p xs) (filter p xs)) ≡ not b && list_all (λ y. not (p y)) xs
      by true h = refl
      by false h = h

module _ {A B : Type 0} where
  pub map_nothing : (f : A → B) (xs : List A) → map f xs ≡ [] → xs ≡ []
  map_nothing f [] e = refl
  map_nothing f (x ∷ xs) e = cc

  pub is_empty-map : (f : A → B) (xs : List A) → is_empty (map f xs) ≡ is_empty xs
  is_empty-map f [] = refl
  is_empty-map f (x ∷ xs) = refl

  pub flat_map_nothing : (f : A → List B) (xs : List A) → ((x : A) → Contains xs x → f x ≡ []) → flat_map f xs ≡ []
  flat_map_nothing f [] h = refl
  flat_map_nothing f (x ∷ xs) h = λ i. h x (Contains-here x xs) i ++ flat_map_nothing f xs (λ y c. h y (Contains-there x xs y c)) i

  pub nothing_each : (f : A → List B) (xs : List A) → flat_map f xs ≡ [] → (x : A) → Contains xs x → f x ≡ []
  nothing_each f [] e x c = absurd (Contains-none x c)
  nothing_each f (y ∷ ys) e x c = ⊎_elim
      (λ i. ap f (sym i) ∙ left_nothing (f y) (flat_map f ys) e)
      (λ d. nothing_each f ys (right_nothing (f y) (flat_map f ys) e) x d)
      (Contains-cons_cases y ys x c)
