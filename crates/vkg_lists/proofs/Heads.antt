-- Of one list written twice: its first element and the rest; a test of one element more; what stands before the last element and behind a list; and equal elements.
use Rattle.std.proofs.Common.{◌≡◌, ◌∙◌, refl, ap, ℕ, zero, suc, ◌+◌, ◌-◌, Bool, ◌||◌, Some, List, [], ◌∷◌, ◌++◌, length, get_or, replicate, take, length-append, arith, true}
use Rattle.std.specs.Prelude.{slice_get}
use Rattle.std.specs.List.{list_any, list_all}
use Rattle.std.proofs.lemmas.List.Folds.{list_any-append}
use Rattle.std.proofs.Math.Bool.{or-false}
use Rattle.std.proofs.Math.Seq.{take-append_seam}
use Rattle.std.proofs.lemmas.List.Elements.{All-replicate}
use Rattle.std.proofs.lemmas.List.Sums.{list_all-from_AllPass}
use Rattle.vkg_lists.specs.Lists.{without_last}

pub head_same : {A : Type 0} (a b : A) (x y : List A) → a ∷ x ≡ b ∷ y → a ≡ b
head_same a b x y e = cc e

pub tail_same : {A : Type 0} (a b : A) (x y : List A) → a ∷ x ≡ b ∷ y → x ≡ y
tail_same a b x y e = cc e

pub any_more : {A : Type 0} (p : A → Bool) (xs : List A) (x : A) → list_any p (xs ++ x ∷ []) ≡ (list_any p xs || p x)
any_more p xs x = list_any-append p xs (x ∷ []) ∙ ap (λ b. list_any p xs || b) (or-false (p x))

pub at_seam : {A : Type 0} (xs : List A) (y : A) (ys : List A) → slice_get (xs ++ y ∷ ys) (length xs) ≡ Some y
at_seam [] y ys = refl
at_seam (x ∷ xs) y ys = at_seam xs y ys

pub before_end : {A : Type 0} (xs : List A) (x : A) → length (xs ++ x ∷ []) - 1 ≡ length xs
before_end xs x = omega (arith, length-append xs (x ∷ []))

pub without_last-push : {A : Type 0} (xs : List A) (x : A) → without_last (xs ++ x ∷ []) ≡ xs
without_last-push xs x = ap (λ n. take n (xs ++ x ∷ [])) (before_end xs x) ∙ take-append_seam xs (x ∷ [])

pub slice_get-behind : {A : Type 0} (xs ys : List A) (n k : ℕ) → n ≡ k + length xs → slice_get (xs ++ ys) n ≡ slice_get ys k
slice_get-behind [] ys n k e = ap (slice_get ys) (omega (arith, e))
slice_get-behind (x ∷ xs) ys zero k e = absurd (omega (arith, e))
slice_get-behind (x ∷ xs) ys (suc n) k e = slice_get-behind xs ys n k (omega (arith, e))

pub replicate_same : {A : Type 0} (n i : ℕ) (x : A) → get_or (replicate n x) i x ≡ x
replicate_same zero i x = refl
replicate_same (suc n) zero x = refl
replicate_same (suc n) (suc i) x = replicate_same n i x

pub list_all-replicate : {A : Type 0} (p : A → Bool) (n : ℕ) (x : A) → p x ≡ true → list_all p (replicate n x) ≡ true
list_all-replicate p n x e = list_all-from_AllPass p (replicate n x) (All-replicate (λ y. p y ≡ true) n x e)
