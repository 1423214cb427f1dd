-- The first element that passes a test, and its place (`find`, `position` and `position_or_len` of std).
use Rattle.std.proofs.Common.{◌≡◌, ◌∙◌, ℕ, zero, suc, ◌+◌, ◌<◌, Bool, true, false, cond, not, ◌||◌, nat_lt, Some, None, List, [], ◌∷◌, ◌++◌, length, map, refl, sym, ap, ap₂, subst, arith}
use Rattle.std.specs.Prelude.{find, is_some, position, slice_get}
use Rattle.std.specs.Option.{option_or}
use Rattle.std.specs.List.{position_or_len, position_from, list_all, list_any, Contains}
use Rattle.std.proofs.lemmas.Bool.{lt-ltb, ltb-false, ltb-true}
use Rattle.std.proofs.lemmas.Iterator.Adapters.{position_from-zero}
use Rattle.std.proofs.lemmas.List.{length-map}
use Rattle.std.proofs.lemmas.List.Folds.{find_at, list_all-map, list_any_at, list_any_none}
use Rattle.std.proofs.lemmas.List.Sums.{fails_before_first, prefix_len-le-length}
use Rattle.vkg_lists.proofs.Bools.{and_parts, and_true, or_left, or_right}
use Rattle.vkg_lists.proofs.Members.{Contains-here, Contains-there}

-- the element x is the first of xs that passes, and stands at i
pub record Found {A : Type 0} (p : A → Bool) (xs : List A) (i : ℕ) (x : A) : Type 0 where
  pub inside : i < length xs
  pub at : slice_get xs i ≡ Some x
  pub found : find p xs ≡ Some x
  pub place : position p xs ≡ Some i
  pub passes : p x ≡ true

module _ {A : Type 0} (p : A → Bool) where
  pub first_here : (x : A) (xs : List A) → p x ≡ true → position_or_len p (x ∷ xs) ≡ 0
  first_here x xs e = ap (λ b. cond (not b) (1 + position_or_len p xs) 0) e

  pub first_later : (x : A) (xs : List A) → p x ≡ false → position_or_len p (x ∷ xs) ≡ suc (position_or_len p xs)
  first_later x xs e = ap (λ b. cond (not b) (1 + position_or_len p xs) 0) e ∙ omega arith

  -- how the first element that passes stands
  abbrev Stands : List A → Type 0
  Stands xs = (position_or_len p xs < length xs) × (x : A) × (slice_get xs (position_or_len p xs) ≡ Some x) × (p x ≡ true)

  stands_cons : (x : A) (xs : List A) (b : Bool) → p x ≡ b → (b || list_any p xs) ≡ true → (list_any p xs ≡ true → Stands xs) → Stands (x ∷ xs)
  stands_cons x xs true q f more =
      let z = first_here x xs q in
      (omega (arith, z), x, subst (λ k. slice_get (x ∷ xs) k ≡ Some x) (sym z) refl, q)
  stands_cons x xs false q f more =
      let r = more f in
      let z = first_later x xs q in
      (omega (arith, r.0, z), r.1, subst (λ k. slice_get (x ∷ xs) k ≡ Some r.1) (sym z) r.2, r.3)

  stands : (xs : List A) → list_any p xs ≡ true → Stands xs
  stands [] e = cc
  stands (x ∷ xs) e = stands_cons x xs (p x) refl e (λ f. stands xs f)

  pub first_found : (xs : List A) → list_any p xs ≡ true → (x : A) × Found p xs (position_or_len p xs) x
  first_found xs e =
      let r = stands xs e in (
        r.1,
        record {
          inside = r.0;
          at = r.2;
          found = find_at p xs ∙ r.2;
          place = ap (λ b. cond b (Some (position_or_len p xs)) None) (lt-ltb (position_or_len p xs) (length xs) r.0);
          passes = r.3;
        },
      )

  pub found : (xs : List A) → list_any p xs ≡ true → (i : ℕ) × (x : A) × Found p xs i x
  found xs e = let r = first_found xs e in (position_or_len p xs, r.0, r.1)

  -- ---- `position` by `position_or_len`

  pub place_some : (xs : List A) (i : ℕ) → position p xs ≡ Some i → i ≡ position_or_len p xs
  place_some xs i e = of (nat_lt (position_or_len p xs) (length xs)) e
    where
      of : (b : Bool) → cond b (Some (position_or_len p xs)) None ≡ Some i → i ≡ position_or_len p xs
      of true h = cc
      of false h = cc

  pub place_within : (xs : List A) (i : ℕ) → position p xs ≡ Some i → i < length xs
  place_within xs i e = of (nat_lt (position_or_len p xs) (length xs)) refl e
    where
      of : (b : Bool) → nat_lt (position_or_len p xs) (length xs) ≡ b → cond b (Some (position_or_len p xs)) None ≡ Some i → i < length xs
      of true t h = let s = place_some xs i e in omega (arith, s, ltb-true (position_or_len p xs) (length xs) t)
      of false t h = cc

  pub place_none : (xs : List A) → position p xs ≡ None → length xs ≡ position_or_len p xs
  place_none xs e = of (nat_lt (position_or_len p xs) (length xs)) refl e
    where
      of : (b : Bool) → nat_lt (position_or_len p xs) (length xs) ≡ b → cond b (Some (position_or_len p xs)) None ≡ None → length xs ≡ position_or_len p xs
      of true t h = cc
      of false t h = omega (arith, prefix_len-le-length (λ x. not (p x)) xs, ltb-false (position_or_len p xs) (length xs) t)

  -- ---- whether anything passes

  pub any_from_member : (xs : List A) (x : A) → Contains xs x → p x ≡ true → list_any p xs ≡ true
  any_from_member xs x c e = list_any_at p xs c.0 x c.1 (ap p c.2 ∙ e)

  -- the first place is the end where nothing passes
  pub lacks : (xs : List A) → position_or_len p xs ≡ length xs → list_any p xs ≡ false
  lacks xs e = list_any_none p xs (λ k d l. fails_before_first p xs k d (omega (arith, e, l)))

  any_from : (i : ℕ) (xs : List A) → list_any p xs ≡ is_some (position_from p i xs)
  any_from i [] = refl
  any_from i (x ∷ xs) = elim (p x) as (λ b. (b || list_any p xs) ≡ is_some (cond b (Some i) (position_from p (i + 1) xs))) [ true ↦ refl | false ↦ any_from (i + 1) xs ]

  pub any_at : (xs : List A) → list_any p xs ≡ is_some (position p xs)
  any_at xs = any_from 0 xs ∙ ap is_some (sym (position_from-zero p xs))

  -- ---- one more element: the first place stays

  push_from : (i : ℕ) (xs : List A) (y : A) → position_from p i (xs ++ y ∷ []) ≡ option_or (position_from p i xs) (cond (p y) (Some (i + length xs)) None)
  push_from i [] y = ap (λ n. cond (p y) (Some n) None) (omega arith)
  push_from i (x ∷ xs) y =
      let more : i + 1 + length xs ≡ i + suc (length xs) = omega arith in
      elim (p x) as (λ b. cond b (Some i) (position_from p (i + 1) (xs ++ y ∷ [])) ≡ option_or (cond b (Some i) (position_from p (i + 1) xs)) (cond (p y) (Some (i + suc (length xs))) None)) [
        | true ↦ refl
        | false ↦ push_from (i + 1) xs y ∙ ap (λ n. option_or (position_from p (i + 1) xs) (cond (p y) (Some n) None)) more
      ]

  pub place_push : (xs : List A) (y : A) → position p (xs ++ y ∷ []) ≡ option_or (position p xs) (cond (p y) (Some (length xs)) None)
  place_push xs y =
      position_from-zero p (xs ++ y ∷ []) ∙ push_from 0 xs y
      ∙ ap (λ n. option_or (position_from p 0 xs) (cond (p y) (Some n) None)) (omega arith)
      ∙ ap (λ o. option_or o (cond (p y) (Some (length xs)) None)) (sym (position_from-zero p xs))

pub all_weaken : {A : Type 0} (p q : A → Bool) (xs : List A) → ((x : A) → p x ≡ true → q x ≡ true) → list_all p xs ≡ true → list_all q xs ≡ true
all_weaken p q [] h e = refl
all_weaken p q (x ∷ xs) h e = let r = and_parts (p x) (list_all p xs) e in and_true (q x) (list_all q xs) (h x r.0) (all_weaken p q xs h r.1)

module _ {A B : Type 0} (p : A → Bool) (q : B → Bool) (f : A → B) where
  mapped_cons : (x : A) (xs : List A) → ((y : A) → p y ≡ true → q (f y) ≡ true) → (b : Bool) → p x ≡ b → (b || list_any p xs) ≡ true → (list_any p xs ≡ true → list_any q (map f xs) ≡ true) → list_any q (map f (x ∷ xs)) ≡ true
  mapped_cons x xs h true k d more = or_left (q (f x)) (list_any q (map f xs)) (h x k)
  mapped_cons x xs h false k d more = or_right (q (f x)) (list_any q (map f xs)) (more d)

  -- where one passes, what is made of it passes
  pub any_mapped : (xs : List A) → ((x : A) → p x ≡ true → q (f x) ≡ true) → list_any p xs ≡ true → list_any q (map f xs) ≡ true
  any_mapped [] h e = cc
  any_mapped (x ∷ xs) h e = mapped_cons x xs h (p x) refl e (λ d. any_mapped xs h d)

  pub all_mapped : (xs : List A) → ((x : A) → p x ≡ true → q (f x) ≡ true) → list_all p xs ≡ true → list_all q (map f xs) ≡ true
  all_mapped xs h e = list_all-map q f xs ∙ all_weaken p (λ x. q (f x)) xs h e

module _ {A B : Type 0} (f : A → B) where
  pub position_or_len-map : (p : B → Bool) (xs : List A) → position_or_len (λ x. p (f x)) xs ≡ position_or_len p (map f xs)
  position_or_len-map p [] = refl
  position_or_len-map p (x ∷ xs) = ap (λ n. cond (not (p (f x))) (1 + n) 0) (position_or_len-map p xs)

  pub position-map : (p : B → Bool) (xs : List A) → position (λ x. p (f x)) xs ≡ position p (map f xs)
  position-map p xs = ap₂ (λ n m. cond (nat_lt n m) (Some n) None) (position_or_len-map p xs) (sym (length-map xs f))

module _ {A : Type 0} where
  -- what stands at a place of a list is in it
  pub get_member : (xs : List A) (k : ℕ) (x : A) → slice_get xs k ≡ Some x → Contains xs x
  get_member [] k x e = cc
  get_member (y ∷ ys) zero x e = let f : y ≡ x = cc in subst (λ z. Contains (y ∷ ys) z) f (Contains-here y ys)
  get_member (y ∷ ys) (suc k) x e = Contains-there y ys x (get_member ys k x e)

  pub get_below : (xs : List A) (k : ℕ) → k < length xs → (x : A) × (slice_get xs k ≡ Some x) × Contains xs x
  get_below [] k h = absurd (omega arith)
  get_below (x ∷ xs) zero h = (x, refl, Contains-here x xs)
  get_below (x ∷ xs) (suc k) h = let r = get_below xs k (omega arith) in (r.0, r.1, Contains-there x xs r.0 r.2)

pub ruleset places = (place_some, place_none)
