-- Rows that agree in pairs of columns.
use Rattle.std.proofs.Common.{◌≡◌, ◌∙◌, inl, inr, ℕ, true, true≢false, ◌&&◌, List, [], ◌∷◌, refl, sym, ap, subst}
use Rattle.std.specs.Prelude.{nat_eq}
use Rattle.std.specs.List.{AllByRecursion, list_any}
use Rattle.std.proofs.lemmas.Bool.{or_cases}
use Rattle.vkg_lists.proofs.Bools.{and_parts, and_true, or_left, or_right}
use Rattle.vkg_lists.proofs.Counts.{eq_itself, eq_same}
use Rattle.vkg_lists.proofs.Tests.{nat_test}
use Rattle.vkg_schema.specs.Rows.{Row, agree, cell_at, equal_at, has_no_null, is_known, is_known_true}
use Rattle.vkg_keys.specs.Keys.{are_among, firsts, seconds, with_itself}
use Rattle.vkg_keys.proofs.SameCells.{are_same, same-comm, same-itself, same-known, same-third}

pub firsts-itself : (columns : List ℕ) → firsts (with_itself columns) ≡ columns
firsts-itself [] = refl
firsts-itself (c ∷ columns) = ap (λ l. c ∷ l) (firsts-itself columns)

pub seconds-itself : (columns : List ℕ) → seconds (with_itself columns) ≡ columns
seconds-itself [] = refl
seconds-itself (c ∷ columns) = ap (λ l. c ∷ l) (seconds-itself columns)

-- ---- one pair

equal-comm : (c : ℕ) (r s : Row) → equal_at r s (c, c) ≡ equal_at s r (c, c)
unfolding equal_at
equal-comm c r s = ap is_known_true (same-comm (cell_at r c) (cell_at s c))

equal-itself : (c : ℕ) (r : Row) → equal_at r r (c, c) ≡ is_known r c
unfolding equal_at is_known
equal-itself c r = same-itself (cell_at r c)

equal-known : (p : ℕ × ℕ) (r s : Row) → equal_at r s p ≡ true → is_known r p.0 ≡ true
unfolding equal_at is_known
equal-known p r s e = same-known (cell_at r p.0) (cell_at s p.1) e

equal-third : (p : ℕ × ℕ) (r q s : Row) → equal_at r q p ≡ true → equal_at r s p ≡ true → equal_at q s (p.1, p.1) ≡ true
unfolding equal_at
equal-third p r q s e f = same-third (cell_at r p.0) (cell_at q p.1) (cell_at s p.1) e f

-- ---- all pairs

pub agree-comm : (columns : List ℕ) (r s : Row) → agree (with_itself columns) r s ≡ agree (with_itself columns) s r
agree-comm [] r s = refl
agree-comm (c ∷ columns) r s = λ i. equal-comm c r s i && agree-comm columns r s i

-- a row agrees with itself where it has no NULL
pub agree-itself : (columns : List ℕ) (r : Row) → agree (with_itself columns) r r ≡ has_no_null columns r
agree-itself [] r = refl
agree-itself (c ∷ columns) r = λ i. equal-itself c r i && agree-itself columns r i

equal-same : (k : ℕ) (r s : Row) → cell_at r k ≡ cell_at s k → equal_at r s (k, k) ≡ is_known r k
unfolding equal_at is_known
equal-same k r s e = ap (are_same (cell_at r k)) (sym e) ∙ same-itself (cell_at r k)

-- so it does with each row that has the same cells there
pub agree-same : (columns : List ℕ) (r s : Row) → AllByRecursion (λ k. cell_at r k ≡ cell_at s k) columns → agree (with_itself columns) r s ≡ has_no_null columns r
agree-same [] r s h = refl
agree-same (k ∷ columns) r s h = λ i. equal-same k r s h.0 i && agree-same columns r s h.1 i

-- a row with a NULL agrees with none
pub agree-known : (ties : List (ℕ × ℕ)) (r s : Row) → agree ties r s ≡ true → has_no_null (firsts ties) r ≡ true
agree-known [] r s e = refl
agree-known (p ∷ ties) r s e =
    let b = and_parts (equal_at r s p) (agree ties r s) e in
    and_true (is_known r p.0) (has_no_null (firsts ties) r) (equal-known p r s b.0) (agree-known ties r s b.1)

-- rows that agree with a third agree with each other
pub agree-third : (ties : List (ℕ × ℕ)) (r q s : Row) → agree ties r q ≡ true → agree ties r s ≡ true → agree (with_itself (seconds ties)) q s ≡ true
agree-third [] r q s e f = refl
agree-third (p ∷ ties) r q s e f =
    let b = and_parts (equal_at r q p) (agree ties r q) e in
    let c = and_parts (equal_at r s p) (agree ties r s) f in
    and_true (equal_at q s (p.1, p.1)) (agree (with_itself (seconds ties)) q s) (equal-third p r q s b.0 c.0) (agree-third ties r q s b.1 c.1)

agree-at : (columns : List ℕ) (q s : Row) (k : ℕ) → agree (with_itself columns) q s ≡ true → list_any (nat_eq k) columns ≡ true → equal_at q s (k, k) ≡ true
agree-at [] q s k e h = absurd (true≢false (sym h))
agree-at (c ∷ columns) q s k e h =
    let b = and_parts (equal_at q s (c, c)) (agree (with_itself columns) q s) e in
    elim (or_cases (nat_eq k c) (list_any (nat_eq k) columns) h) [
      | inl is ↦ ap (λ n. equal_at q s (n, n)) (eq_same nat_test k c is) ∙ b.0
      | inr in_rest ↦ agree-at columns q s k b.1 in_rest
    ]

-- rows that agree in some columns agree in each part of them
pub agree-among : (key columns : List ℕ) (q s : Row) → are_among key columns ≡ true → agree (with_itself columns) q s ≡ true → agree (with_itself key) q s ≡ true
agree-among [] columns q s h e = refl
agree-among (k ∷ key) columns q s h e =
    let b = and_parts (list_any (nat_eq k) columns) (are_among key columns) h in
    and_true (equal_at q s (k, k)) (agree (with_itself key) q s) (agree-at columns q s k e b.0) (agree-among key columns q s b.1 e)

-- rows that agree with a third in ties over a key agree in the key
pub agree-on_key : (ties : List (ℕ × ℕ)) (key : List ℕ) (r q s : Row) → are_among key (seconds ties) ≡ true → agree ties r q ≡ true → agree ties r s ≡ true → agree (with_itself key) q s ≡ true
agree-on_key ties key r q s h e f = agree-among key (seconds ties) q s h (agree-third ties r q s e f)

pub among-itself : (columns : List ℕ) → are_among columns (seconds (with_itself columns)) ≡ true
among-itself columns = subst (λ l. are_among columns l ≡ true) (sym (seconds-itself columns)) (inside columns columns (λ k h. h))
  where
    inside : (key columns : List ℕ) → ((k : ℕ) → list_any (nat_eq k) key ≡ true → list_any (nat_eq k) columns ≡ true) → are_among key columns ≡ true
    inside [] columns h = refl
    inside (k ∷ key) columns h = and_true (list_any (nat_eq k) columns) (are_among key columns)
        (h k (or_left (nat_eq k k) (list_any (nat_eq k) key) (eq_itself nat_test k)))
        (inside key columns (λ n e. h n (or_right (nat_eq n k) (list_any (nat_eq n) key) e)))
