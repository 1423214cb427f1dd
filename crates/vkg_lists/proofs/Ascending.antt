-- `ascending` and `ascending_once` give the one list in order.
use Rattle.std.proofs.Common.{◌≡◌, ℕ, zero, suc, ◌+◌, true, false, cond, ⊎_elim, List, [], ◌∷◌, get_or, refl, ap, subst, ◌∙◌, arith, Ordering, Less, Equal, Greater, is_lt}
use Rattle.std.specs.Ordering.{ordering_reverse, eq_by_cmp}
use Rattle.std.specs.Cmp.Lexicographic.{texts_ties}
use Rattle.std.specs.List.{Contains, IsDistinct, dedup}
use Rattle.std.specs.List.Sorted.{IsPermutation, IsSorted, IsStrictlySortedBy}
use Rattle.std.specs.Str.{bytes_eq}
use Rattle.std.proofs.lemmas.List.{map-id}
use Rattle.std.proofs.lemmas.List.MinMax.{ranks_by}
use Rattle.std.proofs.lemmas.List.Kept.{IsStrictlySortedBy-dedup}
use Rattle.std.proofs.lemmas.Map.Keys.{IsDistinct-IsPermutation}
use Rattle.vkg_lists.specs.Ascending.{put_in, ascending_by, ascending, ascending_once}
use Rattle.vkg_lists.specs.Sets.{IsLinearOrder, HasSameMembers, distinct}
use Rattle.vkg_lists.specs.Texts.{bytes_cmp}
use Rattle.std.proofs.lemmas.List.Sorted.{IsPermutation-cons, IsPermutation-refl, IsPermutation-sym, IsPermutation-trans}
use Rattle.vkg_lists.proofs.Bags.{bag_exchange}
use Rattle.vkg_lists.proofs.Members.{Contains-none, Contains-here, Contains-cons_cases}
use Rattle.vkg_lists.proofs.SameMembers.{members_bag, members_sym, members_trans}
use Rattle.vkg_lists.proofs.Counts.{eq_comm}
use Rattle.vkg_lists.proofs.Distinct.{HasSameMembers-distinct, IsDistinct-distinct, IsDistinct-map}
use Rattle.vkg_lists.proofs.Orders.{IsSorted-head, IsSorted-tail, IsEqualityTest-cmp, ascending_from_sorted, ascending_unique, sorted_unique, bytes_linear}
use Rattle.vkg_lists.proofs.Texts.{bytes_test, members_dedup}

module _ {A : Type 0} {cmp : A → A → Ordering} (o : IsLinearOrder cmp) where
  -- an element in front of a sorted list of which none is below it
  pub IsSorted-cons : (x : A) (xs : List A) → ((y : A) → Contains xs y → is_lt (cmp y x) ≡ false) → IsSorted cmp xs → IsSorted cmp (x ∷ xs)
  IsSorted-cons x [] h s k d l m = absurd (omega arith)
  IsSorted-cons x (y ∷ ys) h s zero d l m = h y (Contains-here y ys)
  IsSorted-cons x (y ∷ ys) h s (suc k) d l m = let e : suc k + 1 ≡ suc (k + 1) = omega arith in ap (λ n. is_lt (cmp (get_or (x ∷ y ∷ ys) n d) (get_or (y ∷ ys) k d))) e ∙ s k d (omega arith) (omega arith)

  other_way : (x y : A) → is_lt (cmp x y) ≡ true → is_lt (cmp y x) ≡ false
  other_way x y l = by (cmp x y) (cmp y x) (o.total.antisymm y x) l
    where
      by : (r s : Ordering) → s ≡ ordering_reverse r → is_lt r ≡ true → is_lt s ≡ false
      by Less s e l = ap is_lt e
      by Equal s e l = cc
      by Greater s e l = cc

  up : (x y z : A) → is_lt (cmp y x) ≡ false → is_lt (cmp z y) ≡ false → is_lt (cmp z x) ≡ false
  up x y z k l = (ranks_by o.total (λ (w : A). w)).chain z y x l k

  pub put_in-bag : (x : A) (ys : List A) → IsPermutation (x ∷ ys) (put_in cmp x ys)
  put_in-bag x [] = IsPermutation-refl _
  put_in-bag x (y ∷ ys) = elim (is_lt (cmp y x)) as (λ b. IsPermutation (x ∷ y ∷ ys) (cond b (y ∷ put_in cmp x ys) (x ∷ y ∷ ys))) [
    | true ↦ IsPermutation-trans _ _ _ (bag_exchange (x ∷ []) (y ∷ []) ys) (IsPermutation-cons y _ _ (put_in-bag x ys))
    | false ↦ IsPermutation-refl _
  ]

  pub ascending_by-bag : (xs : List A) → IsPermutation xs (ascending_by cmp xs)
  ascending_by-bag [] = IsPermutation-refl _
  ascending_by-bag (x ∷ xs) = IsPermutation-trans _ _ _ (IsPermutation-cons x _ _ (ascending_by-bag xs)) (put_in-bag x (ascending_by cmp xs))

  pub put_in-sorted : (x : A) (ys : List A) → IsSorted cmp ys → IsSorted cmp (put_in cmp x ys)
  put_in-sorted x [] s = IsSorted-cons x [] (λ y c. absurd (Contains-none y c)) s
  put_in-sorted x (y ∷ ys) s = elim (is_lt (cmp y x)) as (λ b. is_lt (cmp y x) ≡ b → IsSorted cmp (cond b (y ∷ put_in cmp x ys) (x ∷ y ∷ ys))) [
    | true ↦ λ e. IsSorted-cons y (put_in cmp x ys)
        (λ z c. ⊎_elim (λ i. subst (λ w. is_lt (cmp w y) ≡ false) i (other_way y x e)) (λ d. IsSorted-head o y ys s z d)
        (Contains-cons_cases x ys z ((members_bag (put_in-bag x ys)).back z c)))
        (put_in-sorted x ys (IsSorted-tail o y ys s))
    | false ↦ λ e. IsSorted-cons x (y ∷ ys)
        (λ z c. ⊎_elim (λ i. subst (λ w. is_lt (cmp w x) ≡ false) i e) (λ d. up x y z e (IsSorted-head o y ys s z d)) (Contains-cons_cases y ys z c))
        s
  ] refl

  pub ascending_by-sorted : (xs : List A) → IsSorted cmp (ascending_by cmp xs)
  ascending_by-sorted [] = none_sorted
    where
      none_sorted : IsSorted cmp []
      none_sorted k d l m = absurd (omega arith)
  ascending_by-sorted (x ∷ xs) = put_in-sorted x (ascending_by cmp xs) (ascending_by-sorted xs)

  -- what is in order and has the same elements as often is the ascending list
  pub ascending_by_is : (xs ys : List A) → IsPermutation xs ys → IsSorted cmp ys → ys ≡ ascending_by cmp xs
  ascending_by_is xs ys p s = sorted_unique o ys (ascending_by cmp xs) s (ascending_by-sorted xs) (IsPermutation-trans _ _ _ (IsPermutation-sym _ _ p) (ascending_by-bag xs))

-- ---- texts

pub ascending_is : (xs ys : List (List ℕ)) → IsPermutation xs ys → IsSorted bytes_cmp ys → ys ≡ ascending xs
ascending_is = ascending_by_is bytes_linear

-- in whatever order the texts stood
pub same_ascending : (xs ys : List (List ℕ)) → IsPermutation xs ys → ascending xs ≡ ascending ys
same_ascending xs ys p = ascending_is ys (ascending xs) (IsPermutation-trans _ _ _ (IsPermutation-sym _ _ p) (ascending_by-bag bytes_linear xs)) (ascending_by-sorted bytes_linear xs)

pub ascending_once-members : (xs : List (List ℕ)) → HasSameMembers xs (ascending_once xs)
ascending_once-members xs = members_trans (HasSameMembers-distinct bytes_test xs) (members_bag (ascending_by-bag bytes_linear (distinct bytes_eq xs)))

pub ascending_once-ascending : (xs : List (List ℕ)) → IsStrictlySortedBy bytes_cmp (ascending_once xs)
ascending_once-ascending xs =
    let t = IsEqualityTest-cmp bytes_linear in
    let once : IsDistinct (eq_by_cmp bytes_cmp) (distinct bytes_eq xs) = subst (IsDistinct (eq_by_cmp bytes_cmp)) (map-id (distinct bytes_eq xs)) (IsDistinct-map bytes_test t (λ x. x) (distinct bytes_eq xs) (IsDistinct-distinct bytes_eq xs) (λ x y c d e. e)) in
    ascending_from_sorted bytes_linear (ascending_once xs) (ascending_by-sorted bytes_linear (distinct bytes_eq xs)) (IsDistinct-IsPermutation (eq_by_cmp bytes_cmp) (eq_comm t) _ _ (ascending_by-bag bytes_linear (distinct bytes_eq xs)) once)

-- what ascends strictly and has the same texts is the list of them, each once
pub ascending_once_is : (xs ys : List (List ℕ)) → HasSameMembers xs ys → IsStrictlySortedBy bytes_cmp ys → ys ≡ ascending_once xs
ascending_once_is xs ys m s = ascending_unique bytes_linear ys (ascending_once xs) s (ascending_once-ascending xs) (members_trans (members_sym m) (ascending_once-members xs))

-- ---- a sorted list without its repeats

pub sorted_dedup-ascending : (ys : List (List ℕ)) → IsSorted bytes_cmp ys → IsStrictlySortedBy bytes_cmp (dedup bytes_eq ys)
sorted_dedup-ascending ys s = IsStrictlySortedBy-dedup bytes_linear.total texts_ties ys s

pub sorted_dedup-members : (xs ys : List (List ℕ)) → IsPermutation xs ys → HasSameMembers xs (dedup bytes_eq ys)
sorted_dedup-members xs ys p = members_trans (members_bag p) (members_dedup bytes_test ys)

pub sorted_dedup : (xs ys : List (List ℕ)) → IsPermutation xs ys → IsSorted bytes_cmp ys → dedup bytes_eq ys ≡ ascending_once xs
sorted_dedup xs ys p s = ascending_once_is xs (dedup bytes_eq ys) (sorted_dedup-members xs ys p) (sorted_dedup-ascending ys s)
