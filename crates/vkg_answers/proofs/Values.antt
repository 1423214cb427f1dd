-- A filter's expression over a row has the value that it has under the row's solution.
use Rattle.std.proofs.Common.{◌≡◌, ℕ, Bool, true, false, [], ◌++◌, refl, ap}
use Rattle.std.specs.Prelude.{Option, Some, None, IfSome, not, option_map, option_and_then, is_some, Contains}
use Rattle.std.proofs.lemmas.List.Elements.{Contains-append_left, Contains-append_right}
use Rattle.vkg_lists.proofs.Members.{Contains-here}
use Rattle.vkg_lists.proofs.Bools.{not_true}
use Rattle.vkg_terms.specs.declared.term.Term.{Term}
use Rattle.vkg_terms.specs.Same.{term_eq}
use Rattle.vkg_cells.specs.declared.cell.Cell.{Cell}
use Rattle.vkg_cells.specs.Order.{same}
use Rattle.vkg_cells.specs.declared.cell.Cell.TheVariants as cell
use Rattle.vkg_cells.specs.declared.cell.SqlType.TheVariants as kind
use Rattle.vkg_cells.specs.WellTyped.{is_wide_number}
use Rattle.vkg_schema.specs.Rows.{is_null, Row}
use Rattle.vkg_values.specs.declared.operator.Test.{Test as TestOp}
use Rattle.vkg_values.specs.declared.operator.Take.{Take as TakeOp}
use Rattle.vkg_values.specs.Known.{widest}
use Rattle.vkg_values.specs.Logic.{not3, and3, or3}
use Rattle.vkg_values.specs.Operators.{ebv, test_value, take_value, compare_value, on_two}
use Rattle.vkg_values.proofs.Narrow.{compare_narrow, ebv_narrow as ebv_known, take_narrow, test_narrow}
use Rattle.vkg_sparql.specs.declared.pattern.Node.TheVariants.{Fixed}
use Rattle.vkg_sparql.specs.Lawful.{condition_nodes}
use Rattle.vkg_sparql.specs.Query.{Condition, Variable, Constant, Bound, Test, Take, Compare, SameTerm, Not, And, Or}
use Rattle.vkg_algebra.specs.Values.{truth_term, truth, expression_value}
use Rattle.vkg_algebra.specs.Solutions.{Solution, lookup}
use Rattle.vkg_algebra.specs.Lawful.{condition_nodes_if_any}
use Rattle.vkg_expr.specs.Expr.{Expr, Const}
use Rattle.vkg_expr.specs.Value.{truth_of, term_of, truth_cell, term_cell, value_of}
use Rattle.vkg_expr.proofs.ReadBack.{truth_back}
use Rattle.vkg_unfolded.specs.FineRows.{IsNarrow}
use Rattle.vkg_unfolded.specs.Conditions.{gives_truth, to_term, to_truth, expr_of, value_expr}

not_wide : (t : Term) → IsNarrow (Some t) → is_wide_number t ≡ false
not_wide t h = not_true (is_wide_number t) h

-- the value in a row is the value under a solution: a term, or a truth
abbrev pub Means : Bool → Cell → Option Term → Type 0
Means false c o = (c ≡ term_cell o) × IsNarrow o
Means true c o = (b : Option Bool) × (c ≡ truth_cell b) × (o ≡ option_map truth_term b)

ebv_narrow : (o : Option Term) → IsNarrow o → option_and_then (ebv widest) (term_of (term_cell o)) ≡ truth o
ebv_narrow None h = refl
ebv_narrow (Some t) h = ebv_known t (not_wide t h)

term_meant : (t : Bool) (e : Expr) (row : Row) (o : Option Term) → Means t (value_of e row) o → Means false (value_of (to_term t e) row) o
term_meant false e row o m = m
term_meant true e row o m = Prim.rw (m.1, m.2) (of m.0)
  where
    of : (b : Option Bool) → Means false (value_of (to_term true (Const (truth_cell b) kind.Bool)) row) (option_map truth_term b)
    of None = (refl, tt)
    of (Some true) = (refl, refl)
    of (Some false) = (refl, refl)

pub truth_meant : (t : Bool) (e : Expr) (row : Row) (o : Option Term) → Means t (value_of e row) o → truth_of (value_of (to_truth t e) row) ≡ truth o
truth_meant false e row o m = Prim.rw (m.0, ebv_narrow o m.1) (truth_back (truth o))
truth_meant true e row o m = Prim.rw (m.1, m.2) (of m.0)
  where
    of : (b : Option Bool) → truth_of (truth_cell b) ≡ truth (option_map truth_term b)
    of None = refl
    of (Some true) = refl
    of (Some false) = refl

narrow_again : (o : Option Term) → IfSome o (λ t. is_wide_number t ≡ false) → IsNarrow o
narrow_again None h = tt
narrow_again (Some t) h = ap not h

-- the constants of an expression are narrow
abbrev pub IsNarrowCondition : Condition → Type 0
IsNarrowCondition c = (t : Term) → Contains (condition_nodes c) (Fixed t) → IsNarrow (Some t)

abbrev pub IsNarrowIfAny : Option Condition → Type 0
IsNarrowIfAny c = (t : Term) → Contains (condition_nodes_if_any c) (Fixed t) → IsNarrow (Some t)

in_first : (a b : Condition) → ((t : Term) → Contains (condition_nodes a ++ condition_nodes b) (Fixed t) → IsNarrow (Some t)) → IsNarrowCondition a
in_first a b h t c = h t (Contains-append_left (condition_nodes a) (condition_nodes b) (Fixed t) c)

in_second : (a b : Condition) → ((t : Term) → Contains (condition_nodes a ++ condition_nodes b) (Fixed t) → IsNarrow (Some t)) → IsNarrowCondition b
in_second a b h t c = h t (Contains-append_right (condition_nodes a) (condition_nodes b) (Fixed t) c)

test_means : (f : TestOp) (c : Cell) (o : Option Term) → Means false c o → Means true (truth_cell (option_map (test_value widest f) (term_of c))) (option_map (λ t. truth_term (test_value None f t)) o)
test_means f c None m = (None, Prim.rw m.0 refl, refl)
test_means f c (Some t) m = (Some (test_value None f t), Prim.rw (m.0, test_narrow f t (not_wide t m.1)) refl, refl)

take_means : (f : TakeOp) (c : Cell) (o : Option Term) → Means false c o → Means false (term_cell (option_and_then (take_value f) (term_of c))) (option_and_then (take_value f) o)
take_means f c None m = (Prim.rw m.0 refl, tt)
take_means f c (Some t) m = (Prim.rw m.0 refl, narrow_again (take_value f t) (take_narrow f t))

both_means : (g h : Term → Term → Option Bool) (c d : Cell) (o p : Option Term) → ((a b : Term) → IsNarrow (Some a) → IsNarrow (Some b) → g a b ≡ h a b) → Means false c o → Means false d p →
    Means true (truth_cell (on_two g (term_of c) (term_of d))) (option_map truth_term (on_two h o p))
both_means g h c d None p e m n = (None, Prim.rw m.0 refl, refl)
both_means g h c d (Some a) None e m n = (None, Prim.rw (m.0, n.0) refl, refl)
both_means g h c d (Some a) (Some b) e m n = (h a b, Prim.rw (m.0, n.0, e a b m.1 n.1) refl, refl)

same_means : (c d : Cell) (o p : Option Term) → Means false c o → Means false d p → Means true (truth_cell (same c d)) (option_map truth_term (on_two (λ t u. Some (term_eq t u)) o p))
same_means c d None None m n = (None, Prim.rw m.0 refl, refl)
same_means c d None (Some b) m n = (None, Prim.rw m.0 refl, refl)
same_means c d (Some a) None m n = (None, Prim.rw (m.0, n.0) refl, refl)
same_means c d (Some a) (Some b) m n = (Some (term_eq a b), Prim.rw (m.0, n.0) refl, refl)

pub bound_means : (c : Cell) (o : Option Term) → c ≡ term_cell o → truth_cell (not3 (truth_of (cell.Bool (is_null c)))) ≡ truth_cell (Some (is_some o))
bound_means c None e = Prim.rw e refl
bound_means c (Some t) e = Prim.rw e refl

module _ (at : ℕ → Expr) (row : Row) (s : Solution) (binds : (v : ℕ) → value_of (at v) row ≡ term_cell (lookup s v)) (narrow : (v : ℕ) → IsNarrow (lookup s v)) where
  pub means : (c : Condition) → IsNarrowCondition c → Means (gives_truth c) (value_of (expr_of at c) row) (expression_value c s)
  means (Variable v) h = (binds v, narrow v)
  means (Constant t) h = (refl, h t (Contains-here (Fixed t) []))
  means (Bound v) h = (Some (is_some (lookup s v)), bound_means (value_of (at v) row) (lookup s v) (binds v), refl)
  means (Test f a) h = test_means f (value_of (to_term (gives_truth a) (expr_of at a)) row) (expression_value a s) (term_meant (gives_truth a) (expr_of at a) row (expression_value a s) (means a h))
  means (Take f a) h = take_means f (value_of (to_term (gives_truth a) (expr_of at a)) row) (expression_value a s) (term_meant (gives_truth a) (expr_of at a) row (expression_value a s) (means a h))
  means (Compare f a b) h =
      both_means (compare_value widest f) (compare_value None f) (value_of (to_term (gives_truth a) (expr_of at a)) row) (value_of (to_term (gives_truth b) (expr_of at b)) row) (expression_value a s) (expression_value b s)
      (λ t u x y. compare_narrow f t u (not_wide t x) (not_wide u y)) (term_meant (gives_truth a) (expr_of at a) row (expression_value a s) (means a (in_first a b h))) (term_meant (gives_truth b) (expr_of at b) row (expression_value b s) (means b (in_second a b h)))
  means (SameTerm a b) h =
      same_means (value_of (to_term (gives_truth a) (expr_of at a)) row) (value_of (to_term (gives_truth b) (expr_of at b)) row) (expression_value a s) (expression_value b s)
      (term_meant (gives_truth a) (expr_of at a) row (expression_value a s) (means a (in_first a b h))) (term_meant (gives_truth b) (expr_of at b) row (expression_value b s) (means b (in_second a b h)))
  means (Not a) h = (not3 (truth (expression_value a s)), Prim.rw (truth_meant (gives_truth a) (expr_of at a) row (expression_value a s) (means a h)) refl, refl)
  means (And a b) h = (and3 (truth (expression_value a s)) (truth (expression_value b s)), Prim.rw ((truth_meant (gives_truth a) (expr_of at a) row (expression_value a s) (means a (in_first a b h))), (truth_meant (gives_truth b) (expr_of at b) row (expression_value b s) (means b (in_second a b h)))) refl, refl)
  means (Or a b) h = (or3 (truth (expression_value a s)) (truth (expression_value b s)), Prim.rw ((truth_meant (gives_truth a) (expr_of at a) row (expression_value a s) (means a (in_first a b h))), (truth_meant (gives_truth b) (expr_of at b) row (expression_value b s) (means b (in_second a b h)))) refl, refl)

  -- as a term
  pub value_means : (c : Condition) → IsNarrowCondition c → Means false (value_of (value_expr at c) row) (expression_value c s)
  value_means c h = term_meant (gives_truth c) (expr_of at c) row (expression_value c s) (means c h)
