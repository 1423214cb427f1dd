-- What a list in order gives of each line once, and that it gives the same without some elements.
use Rattle.std.proofs.Common.{◌≡◌, ℕ, ◌≤◌, inl, inr, Bool, true, false, not, List, [], ◌∷◌, ◌++◌, map, length, take, refl, sym, ap, subst, ◌∙◌, arith, Ordering, Less, Equal, Greater, is_lt, length-append}
use Rattle.std.specs.Ordering.{ordering_reverse}
use Rattle.std.specs.Cmp.{IsTotalOrder}
use Rattle.std.specs.List.{AllByRecursion, Contains, filter, list_any}
use Rattle.std.specs.List.Sorted.{IsPermutation}
use Rattle.std.specs.Str.{bytes_eq}
use Rattle.std.proofs.lemmas.Bool.{cases_Bool}
use Rattle.std.proofs.lemmas.Cmp.{alike_right}
use Rattle.std.proofs.lemmas.List.{map-append, take-append-le}
use Rattle.std.proofs.lemmas.List.Sorted.{IsPermutation-map, IsPermutation-sym, IsPermutation-trans, Contains-permutation, length_permutation}
use Rattle.std.proofs.lemmas.List.Elements.{filter-append}
use Rattle.vkg_lists.specs.Ascending.{ascending_by, put_in}
use Rattle.vkg_lists.specs.Sets.{distinct}
use Rattle.vkg_lists.proofs.Bags.{bag_filter}
use Rattle.vkg_lists.proofs.Counts.{Decides-contains_test}
use Rattle.vkg_lists.proofs.Distinct.{bag_distinct, distinct-append}
use Rattle.vkg_lists.proofs.Each.{recursion_weaken}
use Rattle.vkg_lists.proofs.Members.{Contains-filter, Contains-map, filter_keeps}
use Rattle.vkg_lists.proofs.Texts.{bytes_test}
use Rattle.vkg_lists.proofs.Walks.{filter_absorbs}
use Rattle.vkg_order.specs.Listed.{once}
use Rattle.vkg_order.specs.Kept.{Rises}
use Rattle.vkg_order.proofs.Ordered.{Tied, above_upward, ascending-bag, ascending-rises, is_upto, put-first}

-- ---- lines, each once

-- what stands in front stays in front
pub once-front : (b : Bool) (us vs : List (List ℕ)) → (rest : List (List ℕ)) × (once b (us ++ vs) ≡ once b us ++ rest)
once-front true us vs = (_, distinct-append bytes_test us vs)
once-front false us vs = (vs, refl)

-- a line that stands before already
once-skip : (us vs : List (List ℕ)) (u : List ℕ) → Contains us u → distinct bytes_eq (us ++ u ∷ vs) ≡ distinct bytes_eq (us ++ vs)
once-skip us vs u c =
    distinct-append bytes_test us (u ∷ vs)
    ∙ ap (λ l. distinct bytes_eq us ++ l) (rw there (filter_absorbs new (λ y. not (bytes_eq u y)) apart (distinct bytes_eq vs)))
    ∙ sym (distinct-append bytes_test us vs)
  where
    new : List ℕ → Bool
    new y = not (list_any (λ x. bytes_eq x y) us)

    there : list_any (λ x. bytes_eq x u) us ≡ true
    there = (Decides-contains_test bytes_test us u).1 c

    apart : (y : List ℕ) → new y ≡ true → not (bytes_eq u y) ≡ true
    apart y h = elim (cases_Bool (bytes_eq u y)) [
      | inl e ↦ let s : u ≡ y = (bytes_test.decides u y).0 e in let k : list_any (λ x. bytes_eq x y) us ≡ true = subst (λ z. list_any (λ x. bytes_eq x z) us ≡ true) s there in cc (ap not k)
      | inr e ↦ ap not e
    ]

once-bag : (b : Bool) (us vs : List (List ℕ)) → IsPermutation us vs → length (once b us) ≡ length (once b vs)
once-bag true us vs p = sym (length_permutation _ _ (bag_distinct bytes_test p))
once-bag false us vs p = sym (length_permutation us vs p)

-- ---- an element more in a list in order

module _ {A : Type 0} {cmp : A → A → Ordering} (o : IsTotalOrder cmp) (line : A → List ℕ) (alike : (x y : A) → cmp x y ≡ Equal → line x ≡ line y) where
  -- lists that tie have the same lines
  pub tied-lines : (xs ys : List A) → Tied cmp xs ys → map line xs ≡ map line ys
  tied-lines [] [] t = refl
  tied-lines [] (y ∷ ys) t = absurd t
  tied-lines (x ∷ xs) [] t = absurd t
  tied-lines (x ∷ xs) (y ∷ ys) t = λ i. alike x y t.0 i ∷ tied-lines xs ys t.1 i

  abbrev is_above : A → A → Bool
  is_above x y = is_lt (cmp x y)

  all_above : (x : A) (ys : List A) → AllByRecursion (λ y. is_lt (cmp x y) ≡ true) ys → (filter (is_upto cmp x) ys ≡ []) × (filter (is_above x) ys ≡ ys)
  all_above x [] h = (refl, refl)
  all_above x (y ∷ ys) h = let more = all_above x ys h.1 in (rw h.0 more.0, rw h.0 (ap (λ l. y ∷ l) more.1))

  later_above : (x y : A) (ys : List A) → is_lt (cmp x y) ≡ true → AllByRecursion (λ z. is_lt (cmp z y) ≡ false) ys → AllByRecursion (λ z. is_lt (cmp x z) ≡ true) ys
  later_above x y ys l = recursion_weaken (λ z. is_lt (cmp z y) ≡ false) (λ z. is_lt (cmp x z) ≡ true) ys (λ z h. above_upward o x y z l h)

  -- by lines, the element stands between those up to it and those above it
  shape : (x : A) (ys : List A) → Rises cmp ys → map line (put_in cmp x ys) ≡ map line (filter (is_upto cmp x) ys ++ x ∷ filter (is_above x) ys)
  shape x [] h = refl
  shape x (y ∷ ys) h = by (shape x ys h.1) (cmp y x) (cmp x y) (o.antisymm x y) refl refl
    where
      by : map line (put_in cmp x ys) ≡ map line (filter (is_upto cmp x) ys ++ x ∷ filter (is_above x) ys) → (r s : Ordering) → s ≡ ordering_reverse r → cmp y x ≡ r → cmp x y ≡ s → map line (put_in cmp x (y ∷ ys)) ≡ map line (filter (is_upto cmp x) (y ∷ ys) ++ x ∷ filter (is_above x) (y ∷ ys))
      by rest Less s t p q = rw (p, q ∙ t) (ap (λ l. line y ∷ l) rest)
      by rest Equal s t p q =
          let first : put_in cmp x ys ≡ x ∷ ys = put-first o x ys (recursion_weaken (λ z. is_lt (cmp z y) ≡ false) (λ z. is_lt (cmp z x) ≡ false) ys (λ z k. ap is_lt (sym (alike_right o y x z p)) ∙ k) h.0) in
          rw (p, q ∙ t) ((λ i. alike x y (q ∙ t) i ∷ alike y x p i ∷ map line ys) ∙ ap (λ l. line y ∷ l) (sym (ap (map line) first) ∙ rest))
      by rest Greater s t p q =
          let e = all_above x ys (later_above x y ys (ap is_lt (q ∙ t)) h.0) in
          rw (p, q ∙ t, e.0, e.1) refl

  split : (x : A) (ys : List A) → Rises cmp ys → filter (is_upto cmp x) ys ++ filter (is_above x) ys ≡ ys
  split x [] h = refl
  split x (y ∷ ys) h = by (split x ys h.1) (is_lt (cmp x y)) refl
    where
      by : filter (is_upto cmp x) ys ++ filter (is_above x) ys ≡ ys → (b : Bool) → is_lt (cmp x y) ≡ b → filter (is_upto cmp x) (y ∷ ys) ++ filter (is_above x) (y ∷ ys) ≡ y ∷ ys
      by rest true e = let f = all_above x ys (later_above x y ys e h.0) in rw (e, f.0, f.1) refl
      by rest false e = rw e (ap (λ l. y ∷ l) rest)

  lines_of : List A → List (List ℕ)
  lines_of xs = map line (ascending_by cmp xs)

  -- the lines with one element more, and without it
  module _ (x : A) (xs : List A) where
    abbrev sorted : List A
    sorted = ascending_by cmp xs

    abbrev front : List A
    front = filter (is_upto cmp x) sorted

    abbrev back : List A
    back = filter (is_above x) sorted

    with_one : map line (ascending_by cmp (x ∷ xs)) ≡ map line front ++ line x ∷ map line back
    with_one = shape x sorted (ascending-rises o xs) ∙ map-append line front (x ∷ back)

    without_one : map line sorted ≡ map line front ++ map line back
    without_one = ap (map line) (sym (split x sorted (ascending-rises o xs))) ∙ map-append line front back

    -- a line that an element up to it has: each line once, it changes nothing
    pub repeat-drop : (f : A) → Contains xs f → is_lt (cmp x f) ≡ false → line f ≡ line x → once true (map line (ascending_by cmp (x ∷ xs))) ≡ once true (map line (ascending_by cmp xs))
    repeat-drop f c h e =
        let in_front : Contains front f = Contains-filter (is_upto cmp x) sorted f (Contains-permutation xs sorted f (ascending-bag o xs) c) (ap not h) in
        let there : Contains (map line front) (line x) = subst (Contains (map line front)) e (Contains-map line front f in_front) in
        ap (distinct bytes_eq) with_one ∙ once-skip (map line front) (map line back) (line x) there ∙ sym (ap (distinct bytes_eq) without_one)

    -- where n lines stand up to it, it changes none of the first n
    pub room-drop : (b : Bool) (n : ℕ) (gs rs : List A) → IsPermutation xs (gs ++ rs) → ((g : A) → Contains gs g → is_lt (cmp x g) ≡ false) → n ≤ length (once b (map line gs))
        → take n (once b (map line (ascending_by cmp (x ∷ xs)))) ≡ take n (once b (map line (ascending_by cmp xs)))
    room-drop b n gs rs p h long =
        let upto = is_upto cmp x in
        let bag : IsPermutation front (gs ++ filter upto rs) =
        subst (IsPermutation front) (filter-append upto gs rs ∙ ap (λ l. l ++ filter upto rs) (filter_keeps upto gs (λ g c. ap not (h g c))))
        (bag_filter upto (IsPermutation-trans _ _ _ (IsPermutation-sym _ _ (ascending-bag o xs)) p)) in
        let same_length = once-bag b (map line front) (map line (gs ++ filter upto rs)) (IsPermutation-map line front (gs ++ filter upto rs) bag) in
        let head = once-front b (map line gs) (map line (filter upto rs)) in
        let fits : n ≤ length (once b (map line front)) =
        omega (arith, same_length, ap (λ l. length (once b l)) (map-append line gs (filter upto rs)), ap length head.1, length-append (once b (map line gs)) head.0, long) in
        let more = once-front b (map line front) (line x ∷ map line back) in
        let less = once-front b (map line front) (map line back) in
        ap (λ l. take n (once b l)) with_one ∙ ap (take n) more.1 ∙ take-append-le n (once b (map line front)) more.0 fits
        ∙ sym (take-append-le n (once b (map line front)) less.0 fits) ∙ sym (ap (take n) less.1) ∙ sym (ap (λ l. take n (once b l)) without_one)
