-- The first of what a scan finds.
use Rattle.std.proofs.Common.{◌≡◌, ℕ, ◌+◌, ◌<◌, refl, sym, ◌∙◌, ap, List, [], ◌∷◌, ◌++◌, flat_map, map, drop, length, get_or, Some, None, arith}
use Rattle.std.specs.List.{enumerate_from}
use Rattle.std.proofs.lemmas.List.{drop_all, drop_more, get_or-map, length-map}
use Rattle.vkg_lists.specs.Firsts.{first_of}

pub first_later : {A : Type 0} (xs ys : List A) → first_of xs ≡ None → first_of (xs ++ ys) ≡ first_of ys
first_later [] ys e = refl
first_later (x ∷ xs) ys e = cc

pub first_here : {A : Type 0} (xs ys : List A) (x : A) → first_of xs ≡ Some x → first_of (xs ++ ys) ≡ Some x
first_here [] ys x e = cc
first_here (y ∷ xs) ys x e = e

pub opened : {X : Type 0} (xs : List X) (i : ℕ) (x : X) → i < length xs → x ≡ get_or xs i x → drop i xs ≡ x ∷ drop (i + 1) xs
opened xs i x h e = drop_more xs i x h ∙ ap (λ z. z ∷ drop (i + 1) xs) (sym e)

module _ {X A : Type 0} (f : (ℕ × X) → List A) (xs : List X) where
  pub scan_none : (n i : ℕ) (x : X) → i < length xs → x ≡ get_or xs i x → first_of (f (n, x)) ≡ None → first_of (flat_map f (enumerate_from n (drop i xs))) ≡ first_of (flat_map f (enumerate_from (n + 1) (drop (i + 1) xs)))
  scan_none n i x h e none = ap (λ ys. first_of (flat_map f (enumerate_from n ys))) (opened xs i x h e) ∙ first_later (f (n, x)) (flat_map f (enumerate_from (n + 1) (drop (i + 1) xs))) none

  pub scan_some : (n i : ℕ) (x : X) (a : A) → i < length xs → x ≡ get_or xs i x → first_of (f (n, x)) ≡ Some a → first_of (flat_map f (enumerate_from n (drop i xs))) ≡ Some a
  scan_some n i x a h e some = ap (λ ys. first_of (flat_map f (enumerate_from n ys))) (opened xs i x h e) ∙ first_here (f (n, x)) (flat_map f (enumerate_from (n + 1) (drop (i + 1) xs))) a some

  pub scan_end : (n i : ℕ) → length xs < i + 1 → first_of (flat_map f (enumerate_from n (drop i xs))) ≡ None
  scan_end n i h = ap (λ ys. first_of (flat_map f (enumerate_from n ys))) (drop_all i xs (omega (arith, h)))

mapped_item : {X Y : Type 0} (g : X → Y) (xs : List X) (i : ℕ) (x : X) → i < length xs → x ≡ get_or xs i x → g x ≡ get_or (map g xs) i (g x)
mapped_item g xs i x h e = ap g e ∙ sym (get_or-map g xs i x (g x) h)

module _ {X Y A : Type 0} (f : (ℕ × Y) → List A) (g : X → Y) (xs : List X) where
  pub scan_none_by : (n i : ℕ) (x : X) → i < length xs → x ≡ get_or xs i x → first_of (f (n, g x)) ≡ None → first_of (flat_map f (enumerate_from n (drop i (map g xs)))) ≡ first_of (flat_map f (enumerate_from (n + 1) (drop (i + 1) (map g xs))))
  scan_none_by n i x h e none = scan_none f (map g xs) n i (g x) (omega (arith, h, length-map xs g)) (mapped_item g xs i x h e) none

  pub scan_some_by : (n i : ℕ) (x : X) (a : A) → i < length xs → x ≡ get_or xs i x → first_of (f (n, g x)) ≡ Some a → first_of (flat_map f (enumerate_from n (drop i (map g xs)))) ≡ Some a
  scan_some_by n i x a h e some = scan_some f (map g xs) n i (g x) a (omega (arith, h, length-map xs g)) (mapped_item g xs i x h e) some

pub first_of-map_none : {F A : Type 0} (g : F → A) (xs : List F) → first_of xs ≡ None → first_of (map g xs) ≡ None
first_of-map_none g [] e = refl
first_of-map_none g (x ∷ xs) e = cc

pub first_of-map_some : {F A : Type 0} (g : F → A) (xs : List F) (x : F) → first_of xs ≡ Some x → first_of (map g xs) ≡ Some (g x)
first_of-map_some g [] x e = cc
first_of-map_some g (y ∷ ys) x e = cc
