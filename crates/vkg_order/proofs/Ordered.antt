-- Lists in the order of a total preorder, whose elements may tie.
use Rattle.std.proofs.Common.{◌≡◌, ℕ, zero, suc, ◌+◌, ◌<◌, inl, inr, Bool, true, false, not, cond, List, [], ◌∷◌, ◌++◌, length, get_or, refl, sym, ap, subst, ◌∙◌, arith, Ordering, Less, Equal, Greater, is_lt}
use Rattle.std.specs.Prelude.{⊤}
use Rattle.std.specs.Ordering.{ordering_reverse}
use Rattle.std.specs.Cmp.{IsTotalOrder}
use Rattle.std.specs.List.{AllByRecursion}
use Rattle.std.specs.List.Sorted.{IsPartitionedBy, IsPermutation, IsSorted}
use Rattle.std.proofs.lemmas.Cmp.{tied_itself}
use Rattle.std.proofs.lemmas.List.Sorted.{IsPermutation-cons, IsPermutation-refl, IsPermutation-trans, ranks_by}
use Rattle.std.proofs.lemmas.Bool.{cases_order}
use Rattle.vkg_lists.specs.Ascending.{ascending_by, put_in}
use Rattle.vkg_lists.proofs.Bags.{IsPermutation-induction, bag_exchange}
use Rattle.vkg_lists.proofs.Each.{recursion_weaken}
use Rattle.vkg_lists.proofs.Members.{recursion_at}
use Rattle.vkg_order.specs.Kept.{Rises}

module _ {A : Type 0} (cmp : A → A → Ordering) where
  -- the lists tie, element by element
  abbrev pub Tied : List A → List A → Type 0
  Tied [] [] = ⊤
  Tied (x ∷ xs) (y ∷ ys) = (cmp x y ≡ Equal) × Tied xs ys
  Tied xs ys = ⊥

  -- y is not above x
  abbrev pub is_upto : A → A → Bool
  is_upto x y = not (is_lt (cmp x y))

module _ {A : Type 0} {cmp : A → A → Ordering} (o : IsTotalOrder cmp) where
  pub Tied-refl : (xs : List A) → Tied cmp xs xs
  Tied-refl [] = tt
  Tied-refl (x ∷ xs) = (tied_itself o x, Tied-refl xs)

  pub Tied-trans : (xs ys zs : List A) → Tied cmp xs ys → Tied cmp ys zs → Tied cmp xs zs
  Tied-trans [] [] [] t u = tt
  Tied-trans [] [] (z ∷ zs) t u = u
  Tied-trans [] (y ∷ ys) zs t u = absurd t
  Tied-trans (x ∷ xs) [] zs t u = absurd t
  Tied-trans (x ∷ xs) (y ∷ ys) [] t u = absurd u
  Tied-trans (x ∷ xs) (y ∷ ys) (z ∷ zs) t u = (o.congr x y z t.0 ∙ u.0, Tied-trans xs ys zs t.1 u.1)

  -- of two of which the first is below, the second is not
  pub one_way : (x y : A) → is_lt (cmp x y) ≡ true → is_lt (cmp y x) ≡ false
  one_way x y l = by (cmp x y) (cmp y x) (o.antisymm y x) l
    where
      by : (r s : Ordering) → s ≡ ordering_reverse r → is_lt r ≡ true → is_lt s ≡ false
      by Less s e l = ap is_lt e
      by Equal s e l = cc
      by Greater s e l = cc

  -- not below, and not above
  pub up : (x y z : A) → is_lt (cmp y x) ≡ false → is_lt (cmp z y) ≡ false → is_lt (cmp z x) ≡ false
  up x y z k l = (ranks_by o (λ (w : A). w)).chain z y x l k

  -- what is not above an element that is below another is below that
  pub below : (x y z : A) → is_lt (cmp z y) ≡ false → is_lt (cmp z x) ≡ true → is_lt (cmp y x) ≡ true
  below x y z h l = by (is_lt (cmp y x)) refl
    where
      by : (b : Bool) → is_lt (cmp y x) ≡ b → is_lt (cmp y x) ≡ true
      by true e = e
      by false e = let n = up x y z e h in cc

  -- what is not below an element that is above another is above that
  pub above_upward : (x y z : A) → is_lt (cmp x y) ≡ true → is_lt (cmp z y) ≡ false → is_lt (cmp x z) ≡ true
  above_upward x y z l h = by (is_lt (cmp x z)) refl
    where
      by : (b : Bool) → is_lt (cmp x z) ≡ b → is_lt (cmp x z) ≡ true
      by true e = e
      by false e = let n = up y z x h e in cc

  put_below : (x z : A) (zs : List A) → is_lt (cmp z x) ≡ true → put_in cmp x (z ∷ zs) ≡ z ∷ put_in cmp x zs
  put_below x z zs e = rw e refl

  put_here : (x z : A) (zs : List A) → is_lt (cmp z x) ≡ false → put_in cmp x (z ∷ zs) ≡ x ∷ z ∷ zs
  put_here x z zs e = rw e refl

  pub Tied-put : (x : A) (xs ys : List A) → Tied cmp xs ys → Tied cmp (put_in cmp x xs) (put_in cmp x ys)
  Tied-put x [] [] t = (tied_itself o x, tt)
  Tied-put x [] (y ∷ ys) t = absurd t
  Tied-put x (y ∷ ys) [] t = absurd t
  Tied-put x (y ∷ ys) (z ∷ zs) t = rw (o.congr y z x t.0) (by (Tied-put x ys zs t.1) (is_lt (cmp z x)))
    where
      by : Tied cmp (put_in cmp x ys) (put_in cmp x zs) → (b : Bool) → Tied cmp (cond b (y ∷ put_in cmp x ys) (x ∷ y ∷ ys)) (cond b (z ∷ put_in cmp x zs) (x ∷ z ∷ zs))
      by rest true = (t.0, rest)
      by rest false = (tied_itself o x, t)

  same_tied : (xs ys zs : List A) → xs ≡ zs → ys ≡ zs → Tied cmp xs ys
  same_tied xs ys zs e f = subst (λ l. Tied cmp l ys) (sym e) (subst (λ l. Tied cmp zs l) (sym f) (Tied-refl zs))

  both_front : (x y : A) (zs : List A) → put_in cmp x zs ≡ x ∷ zs → put_in cmp y zs ≡ y ∷ zs → Tied cmp (put_in cmp x (y ∷ zs)) (put_in cmp y (x ∷ zs))
  both_front x y zs e f = by (cmp y x) (cmp x y) (o.antisymm x y) refl refl
    where
      by : (r s : Ordering) → s ≡ ordering_reverse r → cmp y x ≡ r → cmp x y ≡ s → Tied cmp (put_in cmp x (y ∷ zs)) (put_in cmp y (x ∷ zs))
      by Less s t p q = same_tied _ _ (y ∷ x ∷ zs) (put_below x y zs (ap is_lt p) ∙ ap (λ l. y ∷ l) e) (put_here y x zs (ap is_lt (q ∙ t)))
      by Equal s t p q =
          subst (λ l. Tied cmp l (put_in cmp y (x ∷ zs))) (sym (put_here x y zs (ap is_lt p)))
          (subst (λ l. Tied cmp (x ∷ y ∷ zs) l) (sym (put_here y x zs (ap is_lt (q ∙ t)))) (q ∙ t, (p, Tied-refl zs)))
      by Greater s t p q = same_tied _ _ (x ∷ y ∷ zs) (put_here x y zs (ap is_lt p)) (put_below y x zs (ap is_lt (q ∙ t)) ∙ ap (λ l. x ∷ l) f)

  -- two elements are put in, in either order
  pub put_put : (x y : A) (zs : List A) → Tied cmp (put_in cmp x (put_in cmp y zs)) (put_in cmp y (put_in cmp x zs))
  put_put x y [] = both_front x y [] refl refl
  put_put x y (z ∷ zs) = by (put_put x y zs) (is_lt (cmp z x)) (is_lt (cmp z y)) refl refl
    where
      by : Tied cmp (put_in cmp x (put_in cmp y zs)) (put_in cmp y (put_in cmp x zs)) → (a b : Bool) → is_lt (cmp z x) ≡ a → is_lt (cmp z y) ≡ b → Tied cmp (put_in cmp x (put_in cmp y (z ∷ zs))) (put_in cmp y (put_in cmp x (z ∷ zs)))
      by rest true true p q =
          subst (λ l. Tied cmp l (put_in cmp y (put_in cmp x (z ∷ zs)))) (sym (ap (put_in cmp x) (put_below y z zs q) ∙ put_below x z (put_in cmp y zs) p))
          (subst (λ l. Tied cmp (z ∷ put_in cmp x (put_in cmp y zs)) l) (sym (ap (put_in cmp y) (put_below x z zs p) ∙ put_below y z (put_in cmp x zs) q))
          (tied_itself o z, rest))
      by rest true false p q = same_tied _ _ (y ∷ z ∷ put_in cmp x zs)
          (ap (put_in cmp x) (put_here y z zs q) ∙ put_below x y (z ∷ zs) (below x y z q p) ∙ ap (λ l. y ∷ l) (put_below x z zs p))
          (ap (put_in cmp y) (put_below x z zs p) ∙ put_here y z (put_in cmp x zs) q)
      by rest false true p q = same_tied _ _ (x ∷ z ∷ put_in cmp y zs)
          (ap (put_in cmp x) (put_below y z zs q) ∙ put_here x z (put_in cmp y zs) p)
          (ap (put_in cmp y) (put_here x z zs p) ∙ put_below y x (z ∷ zs) (below y x z p q) ∙ ap (λ l. x ∷ l) (put_below y z zs q))
      by rest false false p q =
          subst (λ l. Tied cmp l (put_in cmp y (put_in cmp x (z ∷ zs)))) (ap (put_in cmp x) (sym (put_here y z zs q)))
          (subst (λ l. Tied cmp (put_in cmp x (y ∷ z ∷ zs)) l) (ap (put_in cmp y) (sym (put_here x z zs p)))
          (both_front x y (z ∷ zs) (put_here x z zs p) (put_here y z zs q)))

  -- in whatever order the elements stood
  pub ascending-tied : {xs ys : List A} → IsPermutation xs ys → Tied cmp (ascending_by cmp xs) (ascending_by cmp ys)
  ascending-tied = IsPermutation-induction (λ xs ys. Tied cmp (ascending_by cmp xs) (ascending_by cmp ys))
      tt
      (λ x xs ys t. Tied-put x (ascending_by cmp xs) (ascending_by cmp ys) t)
      (λ x y xs. put_put x y (ascending_by cmp xs))
      (λ xs ys zs. Tied-trans (ascending_by cmp xs) (ascending_by cmp ys) (ascending_by cmp zs))

  pub put-bag : (x : A) (ys : List A) → IsPermutation (x ∷ ys) (put_in cmp x ys)
  put-bag x [] = IsPermutation-refl _
  put-bag x (y ∷ ys) = elim (is_lt (cmp y x)) as (λ b. IsPermutation (x ∷ y ∷ ys) (cond b (y ∷ put_in cmp x ys) (x ∷ y ∷ ys))) [
    | true ↦ IsPermutation-trans _ _ _ (bag_exchange (x ∷ []) (y ∷ []) ys) (IsPermutation-cons y _ _ (put-bag x ys))
    | false ↦ IsPermutation-refl _
  ]

  pub ascending-bag : (xs : List A) → IsPermutation xs (ascending_by cmp xs)
  ascending-bag [] = IsPermutation-refl _
  ascending-bag (x ∷ xs) = IsPermutation-trans _ _ _ (IsPermutation-cons x _ _ (ascending-bag xs)) (put-bag x (ascending_by cmp xs))

  all-put : (P : A → Type 0) (x : A) (ys : List A) → P x → AllByRecursion P ys → AllByRecursion P (put_in cmp x ys)
  all-put P x [] p h = (p, tt)
  all-put P x (y ∷ ys) p h = elim (is_lt (cmp y x)) as (λ b. AllByRecursion P (cond b (y ∷ put_in cmp x ys) (x ∷ y ∷ ys))) [
    | true ↦ (h.0, all-put P x ys p h.1)
    | false ↦ (p, h)
  ]

  pub put-rises : (x : A) (ys : List A) → Rises cmp ys → Rises cmp (put_in cmp x ys)
  put-rises x [] h = (tt, tt)
  put-rises x (y ∷ ys) h = by (put-rises x ys h.1) (is_lt (cmp y x)) refl
    where
      by : Rises cmp (put_in cmp x ys) → (b : Bool) → is_lt (cmp y x) ≡ b → Rises cmp (put_in cmp x (y ∷ ys))
      by rest true e = rw e (all-put (λ z. is_lt (cmp z y) ≡ false) x ys (one_way y x e) h.0, rest)
      by rest false e = rw e ((e, recursion_weaken (λ z. is_lt (cmp z y) ≡ false) (λ z. is_lt (cmp z x) ≡ false) ys (λ z l. up x y z e l) h.0), h)

  pub ascending-rises : (xs : List A) → Rises cmp (ascending_by cmp xs)
  ascending-rises [] = tt
  ascending-rises (x ∷ xs) = put-rises x (ascending_by cmp xs) (ascending-rises xs)

  pub put-first : (x : A) (ys : List A) → AllByRecursion (λ y. is_lt (cmp y x) ≡ false) ys → put_in cmp x ys ≡ x ∷ ys
  put-first x [] h = refl
  put-first x (y ∷ ys) h = put_here x y ys h.0

  -- a list in order stays as it is
  pub ascending-same : (xs : List A) → Rises cmp xs → ascending_by cmp xs ≡ xs
  ascending-same [] h = refl
  ascending-same (x ∷ xs) h = ap (put_in cmp x) (ascending-same xs h.1) ∙ put-first x xs h.0

  pub rises-tail : (xs ys : List A) → Rises cmp (xs ++ ys) → Rises cmp ys
  rises-tail [] ys h = h
  rises-tail (x ∷ xs) ys h = rises-tail xs ys h.1

  -- std's word for it
  IsSorted-tail : (x : A) (xs : List A) → IsSorted cmp (x ∷ xs) → IsSorted cmp xs
  IsSorted-tail x xs s k d l m = let e : suc k + 1 ≡ suc (k + 1) = omega arith in ap (λ n. is_lt (cmp (get_or (x ∷ xs) n d) (get_or xs k d))) (sym e) ∙ s (suc k) d (omega arith) (omega arith)

  heads : (x : A) (xs : List A) → IsSorted cmp (x ∷ xs) → AllByRecursion (λ y. is_lt (cmp y x) ≡ false) xs
  heads x [] s = tt
  heads x (y ∷ ys) s =
      let h : is_lt (cmp y x) ≡ false = s 0 x (omega arith) (omega arith) in
      (h, recursion_weaken (λ z. is_lt (cmp z y) ≡ false) (λ z. is_lt (cmp z x) ≡ false) ys (λ z l. up x y z h l) (heads y ys (IsSorted-tail x (y ∷ ys) s)))

  pub rises-from_sorted : (xs : List A) → IsSorted cmp xs → Rises cmp xs
  rises-from_sorted [] s = tt
  rises-from_sorted (x ∷ xs) s = (heads x xs s, rises-from_sorted xs (IsSorted-tail x xs s))

  -- an element is not below one that stands before it
  rises-far : (xs : List A) → Rises cmp xs → (i j : ℕ) (d : A) → i < j → j < length xs → is_lt (cmp (get_or xs j d) (get_or xs i d)) ≡ false
  rises-far [] h i j d l n = absurd (omega arith)
  rises-far (x ∷ xs) h i zero d l n = absurd (omega arith)
  rises-far (x ∷ xs) h zero (suc j) d l n = recursion_at (λ y. is_lt (cmp y x) ≡ false) xs j d h.0 (omega arith)
  rises-far (x ∷ xs) h (suc i) (suc j) d l n = rises-far xs h.1 i j d (omega arith) (omega arith)

  -- what is below an element stands before what is not
  pub rises-partitioned : (x : A) (xs : List A) → Rises cmp xs → IsPartitionedBy (λ y. is_lt (cmp y x)) xs
  rises-partitioned x xs h i j d l n e = elim (cases_order i j) [
    | inl same ↦ ap (λ k. is_lt (cmp (get_or xs k d) x)) same ∙ e
    | inr (inl less) ↦ below x (get_or xs i d) (get_or xs j d) (rises-far xs h i j d less n) e
    | inr (inr more) ↦ absurd (omega arith)
  ]
