-- What holds of each element of a list (`AllByRecursion` of std), through the walks of the list.
use Rattle.std.proofs.Common.{◌≡◌, ℕ, zero, suc, ◌+◌, ◌<◌, Bool, true, false, cond, not, List, [], ◌∷◌, map, Option, Some, None, refl, subst, arith, sym, ◌∙◌, ◌-◌, ◌≤◌}
use Rattle.std.specs.Prelude.{IfSome, find, slice_get}
use Rattle.std.specs.List.{AllByRecursion, AllZip, Contains, cons_option, filter, filter_map, flat_map, list_any, range_with_len}
use Rattle.std.proofs.lemmas.Option.{same_Some}
use Rattle.std.proofs.lemmas.List.FromFn.{get_or-range_with_len, length-range_with_len}
use Rattle.vkg_lists.specs.Sets.{distinct}
use Rattle.vkg_lists.proofs.Bools.{neither}
use Rattle.vkg_lists.proofs.Members.{recursion_append, recursion_from_each, each_from_recursion}

module _ {A : Type 0} where
  pub recursion_weaken : (P Q : A → Type 0) (xs : List A) → ((x : A) → P x → Q x) → AllByRecursion P xs → AllByRecursion Q xs
  recursion_weaken P Q [] f h = tt
  recursion_weaken P Q (x ∷ xs) f h = (f x h.0, recursion_weaken P Q xs f h.1)

  pub recursion_get : (P : A → Type 0) (xs : List A) (k : ℕ) (x : A) → AllByRecursion P xs → slice_get xs k ≡ Some x → P x
  recursion_get P [] k x h e = cc
  recursion_get P (y ∷ ys) zero x h e = subst P (same_Some y x e) h.0
  recursion_get P (y ∷ ys) (suc k) x h e = recursion_get P ys k x h.1 e

  pub recursion_filter : (P : A → Type 0) (p : A → Bool) (xs : List A) → AllByRecursion P xs → AllByRecursion P (filter p xs)
  recursion_filter P p [] h = tt
  recursion_filter P p (x ∷ xs) h = kept (p x) (recursion_filter P p xs h.1)
    where
      kept : (b : Bool) → AllByRecursion P (filter p xs) → AllByRecursion P (cond b (x ∷ filter p xs) (filter p xs))
      kept true k = (h.0, k)
      kept false k = k

  pub recursion_distinct : (P : A → Type 0) (eq : A → A → Bool) (xs : List A) → AllByRecursion P xs → AllByRecursion P (distinct eq xs)
  recursion_distinct P eq [] h = tt
  recursion_distinct P eq (x ∷ xs) h = (h.0, recursion_filter P (λ y. not (eq x y)) (distinct eq xs) (recursion_distinct P eq xs h.1))

  pub recursion_find : (P : A → Type 0) (p : A → Bool) (xs : List A) → AllByRecursion P xs → IfSome (find p xs) P
  recursion_find P p [] h = tt
  recursion_find P p (x ∷ xs) h = by (p x) (recursion_find P p xs h.1)
    where
      by : (b : Bool) → IfSome (find p xs) P → IfSome (cond b (Some x) (find p xs)) P
      by true k = h.0
      by false k = k

  -- no element passes
  pub recursion_fails : (p : A → Bool) (xs : List A) → list_any p xs ≡ false → AllByRecursion (λ x. p x ≡ false) xs
  recursion_fails p [] e = tt
  recursion_fails p (x ∷ xs) e = let h = neither (p x) (list_any p xs) e in (h.0, recursion_fails p xs h.1)

  pub recursion_option : (P : A → Type 0) (o : Option A) (xs : List A) → IfSome o P → AllByRecursion P xs → AllByRecursion P (cons_option o xs)
  recursion_option P None xs h k = k
  recursion_option P (Some x) xs h k = (h, k)

module _ {A B : Type 0} where
  pub recursion_map : (P : B → Type 0) (f : A → B) (xs : List A) → AllByRecursion (λ x. P (f x)) xs → AllByRecursion P (map f xs)
  recursion_map P f [] h = tt
  recursion_map P f (x ∷ xs) h = (h.0, recursion_map P f xs h.1)

  pub recursion_map_weaken : (P : A → Type 0) (Q : B → Type 0) (f : A → B) → ((x : A) → P x → Q (f x)) → (xs : List A) → AllByRecursion P xs → AllByRecursion Q (map f xs)
  recursion_map_weaken P Q f g xs h = recursion_map Q f xs (recursion_weaken P (λ x. Q (f x)) xs g h)

  -- what holds of all that a function gives of the elements
  pub map_each : (P : B → Type 0) (f : A → B) (xs : List A) → ((x : A) → Contains xs x → P (f x)) → AllByRecursion P (map f xs)
  map_each P f xs h = recursion_map P f xs (recursion_from_each (λ x. P (f x)) xs h)

  pub recursion_flat_map : (P : A → Type 0) (Q : B → Type 0) (f : A → List B) → ((x : A) → P x → AllByRecursion Q (f x)) → (xs : List A) → AllByRecursion P xs → AllByRecursion Q (flat_map f xs)
  recursion_flat_map P Q f g [] h = tt
  recursion_flat_map P Q f g (x ∷ xs) h = recursion_append Q (f x) (flat_map f xs) (g x h.0) (recursion_flat_map P Q f g xs h.1)

  pub recursion_filter_map : (P : A → Type 0) (Q : B → Type 0) (f : A → Option B) → ((x : A) → P x → IfSome (f x) Q) → (xs : List A) → AllByRecursion P xs → AllByRecursion Q (filter_map f xs)
  recursion_filter_map P Q f g [] h = tt
  recursion_filter_map P Q f g (x ∷ xs) h = recursion_option Q (f x) (filter_map f xs) (g x h.0) (recursion_filter_map P Q f g xs h.1)

  -- the element of a second list at the place of one of the first
  pub zip_get : (R : A → B → Type 0) (xs : List A) (ys : List B) (k : ℕ) (x : A) → AllZip R xs ys → slice_get xs k ≡ Some x → (y : B) × (slice_get ys k ≡ Some y) × R x y
  zip_get R [] ys k x z e = cc
  zip_get R (a ∷ xs) [] k x z e = absurd z
  zip_get R (a ∷ xs) (b ∷ ys) zero x z e = (b, refl, subst (λ w. R w b) (same_Some a x e) z.0)
  zip_get R (a ∷ xs) (b ∷ ys) (suc k) x z e = zip_get R xs ys k x z.1 e

-- ---- the numbers of a range

-- these are the numbers from the first on
pub range_member : (a n k : ℕ) → Contains (range_with_len a n) k → (a ≤ k) × (k < a + n)
range_member a n k c =
    let inside : c.0 < n = omega (arith, c.1, length-range_with_len a n) in
    let is : a + c.0 ≡ k = sym (get_or-range_with_len a n c.0 k inside) ∙ c.2 in
    (omega (arith, is), omega (arith, is, inside))

pub member_range : (a n k : ℕ) → a ≤ k → k < a + n → Contains (range_with_len a n) k
member_range a n k low high =
    let inside : k - a < n = omega (arith, low, high) in
    let is : a + (k - a) ≡ k = omega (arith, low) in
    (k - a, omega (arith, inside, length-range_with_len a n), get_or-range_with_len a n (k - a) k inside ∙ is)

pub each_below : (P : ℕ → Type 0) (n : ℕ) → ((i : ℕ) → i < n → P i) → AllByRecursion P (range_with_len 0 n)
each_below P n h = recursion_from_each P (range_with_len 0 n) (λ i c. let r = range_member 0 n i c in h i (omega (arith, r.1)))

pub below_range : (P : ℕ → Type 0) (n : ℕ) → AllByRecursion P (range_with_len 0 n) → (k : ℕ) → k < n → P k
below_range P n h k l = each_from_recursion P (range_with_len 0 n) h k (member_range 0 n k (omega arith) (omega (arith, l)))
