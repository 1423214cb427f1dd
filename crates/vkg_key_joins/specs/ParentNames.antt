-- The columns of the parent named in the child: what they have, the kinds over the others, and where a child's columns are known.
use Rattle.std.proofs.Common.{◌≡◌, ◌∙◌, ℕ, zero, suc, ◌+◌, ◌-◌, ◌<◌, Bool, true, false, true≢false, not, ◌&&◌, ◌||◌, nat_le, List, [], ◌∷◌, length, Some, refl, sym, ap, arith}
use Rattle.std.specs.Prelude.{nat_eq, option_map, if◌then◌else◌}
use Rattle.std.specs.Bool.{then_some}
use Rattle.std.specs.List.{AllByRecursion, list_all, list_any}
use Rattle.std.proofs.lemmas.Bool.{eqb-true, le-leb, leb-true}
use Rattle.vkg_lists.proofs.Bools.{is_false}
use Rattle.vkg_cells.specs.declared.cell.Cell.TheVariants as cell
use Rattle.vkg_cells.specs.declared.cell.SqlType.{SqlType}
use Rattle.vkg_cells.specs.declared.cell.SqlType.TheVariants as kind
use Rattle.vkg_columns.proofs.Conjuncts.{IsTruth, and_then-kind, holds-and_then}
use Rattle.vkg_columns.specs.Columns.{at_place}
use Rattle.vkg_expr.specs.Expr.{Expr, IsNull, Not}
use Rattle.vkg_expr.specs.Logic.{and_then}
use Rattle.vkg_expr.specs.Typing.{is_one, kind_of}
use Rattle.vkg_expr.specs.Value.{holds, truth_cell, truth_of, value_of}
use Rattle.vkg_values.specs.Logic.{not3}
use Rattle.vkg_schema.specs.Rows.{Row, is_known_true, is_null}
use Rattle.vkg_key_joins.specs.ParentJoin.{all_tied_to, is_given, is_given_behind, known_too, tied_to}

-- ---- what is in the place of a column

place-tied : (child : List Expr) (pairs : List (ℕ × ℕ)) (y n k : ℕ) → k < n → at_place (all_tied_to child pairs y n) k ≡ tied_to child pairs (y + k)
place-tied child pairs y zero k h = absurd (omega (arith, h))
place-tied child pairs y (suc n) zero h = ap (tied_to child pairs) (omega arith)
place-tied child pairs y (suc n) (suc k) h = place-tied child pairs (suc y) n k (omega (arith, h)) ∙ ap (tied_to child pairs) (omega arith)

pub place-first : (child : List Expr) (pairs : List (ℕ × ℕ)) (n k : ℕ) → k < n → at_place (all_tied_to child pairs 0 n) k ≡ tied_to child pairs k
place-first child pairs n k h = place-tied child pairs 0 n k h ∙ ap (tied_to child pairs) (omega arith)

pub long-tied : (child : List Expr) (pairs : List (ℕ × ℕ)) (y n : ℕ) → length (all_tied_to child pairs y n) ≡ n
long-tied child pairs y zero = refl
long-tied child pairs y (suc n) = ap suc (long-tied child pairs (suc y) n)

-- what each of the child's columns gives of the parent's, what is in the place of one of these gives
pub tied-gives : {A : Type 0} (given : Expr → A) (of_parent : ℕ → A) (child : List Expr) (pairs : List (ℕ × ℕ)) → AllByRecursion (λ p. given (at_place child p.0) ≡ of_parent p.1) pairs →
    (y : ℕ) → list_any (λ p. nat_eq p.1 y) pairs ≡ true → given (tied_to child pairs y) ≡ of_parent y
tied-gives given of_parent child [] each y h = absurd (true≢false (sym h))
tied-gives given of_parent child (p ∷ pairs) each y h = one (nat_eq p.1 y) refl h (tied-gives given of_parent child pairs each.1 y)
  where
    one : (b : Bool) → nat_eq p.1 y ≡ b → (b || list_any (λ x. nat_eq x.1 y) pairs) ≡ true → (list_any (λ x. nat_eq x.1 y) pairs ≡ true → given (tied_to child pairs y) ≡ of_parent y) →
        given (if b then at_place child p.0 else tied_to child pairs y) ≡ of_parent y
    one true e k rest = each.0 ∙ ap of_parent (eqb-true p.1 y e)
    one false e k rest = rest k

-- a column of the parent that may be named is one of those in the pairs
pub given-tied : (b n : ℕ) (pairs : List (ℕ × ℕ)) (y : ℕ) → y < n → is_given b n pairs (b + y) ≡ true → list_any (λ p. nat_eq p.1 y) pairs ≡ true
given-tied b n pairs y below h =
    let behind : nat_le b (b + y) ≡ true = le-leb b (b + y) (omega arith) in
    let back : (b + y) - b ≡ y = omega arith in
    let before : nat_le n y ≡ false = is_false (nat_le n y) (λ e. let most = leb-true n y e in absurd (omega (arith, most, below))) in
    ap (λ t. t || list_any (λ p. nat_eq p.1 y) pairs) (sym before)
    ∙ ap (is_given_behind n pairs) (sym back)
    ∙ ap (λ t. if t then is_given_behind n pairs ((b + y) - b) else true) (sym behind)
    ∙ h

-- ---- columns that are not NULL

not_null : (b : Bool) → is_known_true (truth_of (truth_cell (not3 (truth_of (cell.Bool b))))) ≡ not b
not_null true = refl
not_null false = refl

pub known-test : (e : Expr) (row : Row) → holds (Not (IsNull e)) row ≡ not (is_null (value_of e row))
known-test e row = not_null (is_null (value_of e row))

both-right : (b : Bool) → b ≡ (b && true)
both-right true = refl
both-right false = refl

both-again : (a b c : Bool) → ((a && b) && c) ≡ (a && (b && c))
both-again true b c = refl
both-again false b c = refl

pub known-holds : (child : List Expr) (row : Row) (c : Expr) (pairs : List (ℕ × ℕ)) →
    holds (known_too child c pairs) row ≡ (holds c row && list_all (λ p. not (is_null (value_of (at_place child p.0) row))) pairs)
known-holds child row c [] = both-right (holds c row)
known-holds child row c (p ∷ pairs) =
    let known = Not (IsNull (at_place child p.0)) in
    let rest = list_all (λ p. not (is_null (value_of (at_place child p.0) row))) pairs in
    known-holds child row (and_then c known) pairs
    ∙ ap (λ b. b && rest) (holds-and_then row c known ∙ ap (λ b. holds c row && b) (known-test (at_place child p.0) row))
    ∙ both-again (holds c row) (not (is_null (value_of (at_place child p.0) row))) rest

-- there is a kind
abbrev pub HasKind : List SqlType → Expr → Type 0
HasKind ks e = (k : SqlType) × (kind_of e ks ≡ Some k)

known-truth : (ks : List SqlType) (e : Expr) → HasKind ks e → IsTruth ks (Not (IsNull e))
known-truth ks e h = ap (λ o. then_some (is_one kind.Bool (option_map (λ (k : SqlType). kind.Bool) o)) kind.Bool) h.1

pub known-kind : (child : List Expr) (ks : List SqlType) (c : Expr) (pairs : List (ℕ × ℕ)) → IsTruth ks c → AllByRecursion (λ p. HasKind ks (at_place child p.0)) pairs → IsTruth ks (known_too child c pairs)
known-kind child ks c [] t h = t
known-kind child ks c (p ∷ pairs) t h = known-kind child ks (and_then c (Not (IsNull (at_place child p.0)))) pairs (and_then-kind ks c (Not (IsNull (at_place child p.0))) t (known-truth ks (at_place child p.0) h.0)) h.1
