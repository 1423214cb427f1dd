-- The condition of a Join over shared variables is that the solutions are compatible.
use Rattle.std.proofs.Common.{◌≡◌, ℕ, ◌+◌, ◌<◌, ◌≤◌, Bool, true, false, List, [], ◌∷◌, ◌++◌, map, length, refl, sym, ap, ◌∙◌, arith}
use Rattle.std.specs.Prelude.{Option, Some, None, ◌&&◌, ◌||◌, filter}
use Rattle.std.specs.List.{list_all, range_with_len}
use Rattle.std.proofs.Math.Bool.{or-false}
use Rattle.std.proofs.lemmas.List.Folds.{list_all-map}
use Rattle.std.proofs.lemmas.Map.Made.{is_member-Decides}
use Rattle.vkg_lists.proofs.Members.{each_of_all, all_of_each}
use Rattle.vkg_lists.proofs.Tests.{nat_test}
use Rattle.vkg_lists.proofs.Bools.{and_parts, same_truth}
use Rattle.vkg_lists.proofs.Rows.{agree_none}
use Rattle.vkg_lists.proofs.Each.{member_range}
use Rattle.vkg_terms.specs.declared.term.Term.{Term}
use Rattle.vkg_terms.specs.Same.{term_eq}
use Rattle.vkg_cells.specs.declared.cell.Cell.{Cell}
use Rattle.vkg_cells.specs.Order.{same}
use Rattle.vkg_cells.specs.declared.cell.Cell.TheVariants as cell
use Rattle.vkg_schema.specs.Rows.{is_known_true, is_null, Row}
use Rattle.vkg_algebra.specs.Solutions.{compatible}
use Rattle.vkg_expr.specs.Expr.{Expr, exprs, IsNull, Same}
use Rattle.vkg_expr.specs.Logic.{or_of}
use Rattle.vkg_expr.specs.Value.{value_of, term_of, term_cell, truth_of, truth_cell, holds}
use Rattle.vkg_expr.proofs.Conjuncts.{holds-Or}
use Rattle.vkg_unfolded.specs.declared.mode.Mode.{Mode}
use Rattle.vkg_algebra.specs.Visible.{has}
use Rattle.vkg_unfolded.specs.Unfolded.{left_column, right_column, visible_column, columns_in, or_null}
use Rattle.vkg_unfolded.specs.StandsFor.{term_in, solution_of}
use Rattle.vkg_answers.proofs.Joins.{agree}
use Rattle.vkg_answers.proofs.Reading.{AreTermCells, AreBelow, read, read_left, read_right, read_typed, read_none, has-filter}

or_cells : Cell → Cell → Bool
or_cells c d = is_null c || (is_null d || (is_known_true (truth_of (truth_cell (same c d))) || false))

or_terms : (o p : Option Term) → or_cells (term_cell o) (term_cell p) ≡ agree o p
unfolding or_cells
or_terms None None = refl
or_terms None (Some u) = refl
or_terms (Some t) None = refl
or_terms (Some t) (Some u) = or-false (term_eq t u)

pub holds-or_null : (a b : Expr) (row : Row) (o p : Option Term) → value_of a row ≡ term_cell o → value_of b row ≡ term_cell p → holds (or_null a b) row ≡ agree o p
unfolding or_cells
holds-or_null a b row o p e f = holds-Or row (exprs (IsNull a ∷ IsNull b ∷ Same a b ∷ [])) ∙ (λ i. or_cells (e i) (f i)) ∙ or_terms o p

-- where the second is bound, its NULL need not be asked for
pub holds-or_bound : (a b : Expr) (row : Row) (o : Option Term) (i : Term) → value_of a row ≡ term_cell o → value_of b row ≡ cell.Term i → holds (or_of (IsNull a ∷ Same a b ∷ [])) row ≡ agree o (Some i)
unfolding or_cells
holds-or_bound a b row o i e f = holds-Or row (exprs (IsNull a ∷ Same a b ∷ [])) ∙ (λ t. is_null (e t) || (is_known_true (truth_of (truth_cell (same (e t) (f t)))) || false)) ∙ or_terms o (Some i)

pub compatible-map : (f g : ℕ → Option Term) (us : List ℕ) → compatible (map f us) (map g us) ≡ list_all (λ v. agree (f v) (g v)) us
compatible-map f g [] = refl
compatible-map f g (u ∷ us) = ap (λ b. agree (f u) (g u) && b) (compatible-map f g us)

pub all_elim : (p : ℕ → Bool) (vs : List ℕ) → list_all p vs ≡ true → (v : ℕ) → has vs v ≡ true → p v ≡ true
all_elim p vs h v k = each_of_all p vs h v ((is_member-Decides nat_test.decides vs v).0 k)

pub all_intro : (p : ℕ → Bool) (vs : List ℕ) → ((v : ℕ) → has vs v ≡ true → p v ≡ true) → list_all p vs ≡ true
all_intro p vs h = all_of_each p vs (λ v c. h v ((is_member-Decides nat_test.decides vs v).1 c))

pub has-upto : (n k v w : ℕ) → v < n → w ≡ k + v → has (range_with_len k n) w ≡ true
has-upto n k v w h e = (is_member-Decides nat_test.decides (range_with_len k n) w).1 (member_range k n w (omega arith) (omega arith))

abbrev pub agreements : Mode → List ℕ → List ℕ → List Expr
agreements mode vs ws = map (λ v. or_null (left_column vs v) (right_column mode vs ws v)) (filter (has ws) vs)

pub agreements-compatible : (n : ℕ) (mode : Mode) (vs ws : List ℕ) (l r : Row) → AreBelow n vs → length l ≡ columns_in mode vs → length vs ≤ length l → AreTermCells l → AreTermCells r →
    list_all (λ c. holds c (l ++ r)) (agreements mode vs ws) ≡ compatible (solution_of n vs l) (solution_of n ws r)
agreements-compatible n mode vs ws l r below m k p q =
    list_all-map (λ c. holds c (l ++ r)) (λ v. or_null (left_column vs v) (right_column mode vs ws v)) (filter (has ws) vs)
    ∙ same_truth (list_all test (filter (has ws) vs)) (list_all agreed (range_with_len 0 n)) onto back
    ∙ sym (compatible-map (term_in (visible_column vs) l) (term_in (visible_column ws) r) (range_with_len 0 n))
  where
    test : ℕ → Bool
    test v = holds (or_null (left_column vs v) (right_column mode vs ws v)) (l ++ r)

    agreed : ℕ → Bool
    agreed v = agree (term_in (visible_column vs) l v) (term_in (visible_column ws) r v)

    one : (v : ℕ) → has vs v ≡ true → has ws v ≡ true → test v ≡ agreed v
    one v e f = holds-or_null (left_column vs v) (right_column mode vs ws v) (l ++ r) (term_of (read vs l v)) (term_of (read ws r v))
        (read_left vs l r v k e ∙ (read_typed vs l p v).0) (read_right mode vs ws l r v m f ∙ (read_typed ws r q v).0)

    shared : (v : ℕ) → has vs v ≡ true → has ws v ≡ true → has (filter (has ws) vs) v ≡ true
    shared v e f = has-filter (has ws) vs v ∙ (λ i. e i && f i)

    onto : list_all test (filter (has ws) vs) ≡ true → list_all agreed (range_with_len 0 n) ≡ true
    onto h = all_intro agreed (range_with_len 0 n) (λ v c. of v (has vs v) refl (has ws v) refl)
      where
        of : (v : ℕ) (a : Bool) → has vs v ≡ a → (b : Bool) → has ws v ≡ b → agreed v ≡ true
        of v true e true f = sym (one v e f) ∙ all_elim test (filter (has ws) vs) h v (shared v e f)
        of v true e false f = ap (λ c. agree (term_in (visible_column vs) l v) (term_of c)) (read_none ws r v f) ∙ agree_none term_eq (term_in (visible_column vs) l v)
        of v false e b f = ap (λ c. agree (term_of c) (term_in (visible_column ws) r v)) (read_none vs l v e)

    back : list_all agreed (range_with_len 0 n) ≡ true → list_all test (filter (has ws) vs) ≡ true
    back h = all_intro test (filter (has ws) vs) (λ v c. let b = and_parts (has vs v) (has ws v) (sym (has-filter (has ws) vs v) ∙ c) in
        one v b.0 b.1 ∙ all_elim agreed (range_with_len 0 n) h v (has-upto n 0 v v (below v b.0) (omega arith)))
