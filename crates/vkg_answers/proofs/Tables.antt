-- VALUES: the rows of its plan are its solutions.
use Rattle.std.proofs.Common.{◌≡◌, ℕ, Bool, true, false, List, [], ◌∷◌, ◌++◌, map, refl, sym, ap, subst, ◌∙◌, arith, append-nil}
use Rattle.std.specs.Prelude.{Option, Some, None, flat_map, nat_eq, Contains, if◌then◌else◌, slice_set}
use Rattle.std.specs.List.{range_with_len}
use Rattle.std.proofs.lemmas.List.Elements.{Contains-append_left, Contains-append_right}
use Rattle.vkg_lists.proofs.Bags.{bag_same}
use Rattle.vkg_lists.proofs.Bools.{neither}
use Rattle.vkg_lists.proofs.Counts.{eq_comm}
use Rattle.vkg_lists.proofs.Members.{Contains-from_map, Contains-here}
use Rattle.vkg_lists.proofs.Tests.{nat_test}
use Rattle.vkg_lists.proofs.Walks.{map-map}
use Rattle.vkg_terms.specs.declared.term.Term.{Term}
use Rattle.vkg_cells.specs.declared.cell.Cell.TheVariants as cell
use Rattle.vkg_schema.specs.Rows.{Database, Row}
use Rattle.vkg_sparql.specs.declared.pattern.Node.TheVariants.{Fixed}
use Rattle.vkg_sparql.specs.Lawful.{value_nodes}
use Rattle.vkg_algebra.specs.Solutions.{row_solution}
use Rattle.vkg_algebra.specs.Evaluation.{Dataset}
use Rattle.vkg_algebra.specs.Visible.{each_once, has}
use Rattle.vkg_expr.specs.Expr.{Expr, Col}
use Rattle.vkg_expr.specs.Value.{value_of, term_of}
use Rattle.vkg_expr.proofs.Conjuncts.{values_are}
use Rattle.vkg_plan.specs.Kinds.{Tables}
use Rattle.vkg_plan.specs.Plan.{plans}
use Rattle.vkg_plan.specs.Rows.{rows_of, rows_of_each}
use Rattle.vkg_unfolded.specs.declared.mode.Mode.TheVariants.{Default}
use Rattle.vkg_unfolded.specs.FineRows.{IsNarrow}
use Rattle.vkg_unfolded.specs.StandsFor.{term_in, solution_of}
use Rattle.vkg_unfolded.specs.Unfolded.{row_plan, row_term, table_plan, value_const, visible_column}
use Rattle.vkg_answers.proofs.Columns.{unbound_is}
use Rattle.vkg_answers.proofs.Graphs.{Plain}
use Rattle.vkg_answers.proofs.Modes.{IsRowOf}
use Rattle.vkg_answers.proofs.Reading.{IsTermCell, has-each_once, read_project, set_at}
use Rattle.vkg_answers.proofs.Steps.{projected}

-- the row that a row of VALUES is
abbrev value_row : List ℕ → List (Option Term) → Row
value_row vs row = map (λ e. value_of e []) (map (λ v. value_const (row_term vs row v)) (each_once vs) ++ [])

-- ---- the rows of the plan

module _ (schema : Tables) (db : Database) (vs : List ℕ) where
  each_row : (rows : List (List (Option Term))) → flat_map (λ rs. rs) (rows_of_each schema (plans (map (row_plan vs) rows)) db) ≡ map (value_row vs) rows
  each_row [] = refl
  each_row (row ∷ rows) = λ i. (values_are (es row) [] ∙ ap (map (λ e. value_of e [])) (sym (append-nil (es row)))) i ∷ each_row rows i
    where
      es : List (Option Term) → List Expr
      es row = map (λ v. value_const (row_term vs row v)) (each_once vs)

  table_rows : (rows : List (List (Option Term))) → rows_of schema (table_plan vs rows) db ≡ map (value_row vs) rows
  table_rows [] = refl
  table_rows (row ∷ rows) = each_row (row ∷ rows)

-- ---- their solutions

const_term : (o : Option Term) → term_of (value_of (value_const o) []) ≡ o
const_term None = refl
const_term (Some t) = refl

row_absent : (vs : List ℕ) (row : List (Option Term)) (v : ℕ) → has vs v ≡ false → row_term vs row v ≡ None
row_absent [] row v h = refl
row_absent (w ∷ vs) [] v h = refl
row_absent (w ∷ vs) (t ∷ ts) v h = let x = neither (nat_eq v w) (has vs v) h in Prim.rw (eq_comm nat_test w v ∙ x.0) (row_absent vs ts v x.1)

row_is : (n : ℕ) (vs : List ℕ) (row : List (Option Term)) → row_solution n vs row ≡ map (row_term vs row) (range_with_len 0 n)
row_is n [] row = unbound_is n 0
row_is n (w ∷ vs) [] = unbound_is n 0
row_is n (w ∷ vs) (t ∷ ts) = ap (λ s. slice_set s w t) (row_is n vs ts) ∙ set_at t (row_term vs ts) n 0 w w (omega arith)

value_solution : (n : ℕ) (vs : List ℕ) (row : List (Option Term)) → solution_of n (each_once vs) (value_row vs row) ≡ row_solution n vs row
value_solution n vs row = (λ i. map (λ v. at v i) (range_with_len 0 n)) ∙ sym (row_is n vs row)
  where
    at : (v : ℕ) → term_in (visible_column (each_once vs)) (value_row vs row) v ≡ row_term vs row v
    at v = ap term_of (read_project (λ w. value_const (row_term vs row w)) [] (each_once vs) [] v) ∙ of (has (each_once vs) v) refl
      where
        of : (b : Bool) → has (each_once vs) v ≡ b → term_of (if b then value_of (value_const (row_term vs row v)) [] else cell.Null) ≡ row_term vs row v
        of true e = const_term (row_term vs row v)
        of false e = sym (row_absent vs row v (sym (has-each_once vs v) ∙ e))

-- ---- their cells

narrow_value : (o : Option Term) → ((t : Term) → Contains (value_nodes o) (Fixed t) → IsNarrow (Some t)) → IsNarrow o
narrow_value None h = tt
narrow_value (Some t) h = h t (Contains-here (Fixed t) [])

narrow_row : (vs : List ℕ) (row : List (Option Term)) → ((t : Term) → Contains (flat_map value_nodes row) (Fixed t) → IsNarrow (Some t)) → (v : ℕ) → IsNarrow (row_term vs row v)
narrow_row [] row h v = tt
narrow_row (w ∷ vs) [] h v = tt
narrow_row (w ∷ vs) (o ∷ os) h v = of (narrow_row vs os (λ t c. h t (Contains-append_right (value_nodes o) (flat_map value_nodes os) (Fixed t) c)) v) (nat_eq w v)
  where
    of : IsNarrow (row_term vs os v) → (b : Bool) → IsNarrow (if b then o else row_term vs os v)
    of rest true = narrow_value o (λ t c. h t (Contains-append_left (value_nodes o) (flat_map value_nodes os) (Fixed t) c))
    of rest false = rest

value_cell : (o : Option Term) → IsNarrow o → IsTermCell (value_of (value_const o) [])
value_cell None h = (refl, tt)
value_cell (Some t) h = (refl, h)

module _ (schema : Tables) (db : Database) (n : ℕ) (d : Dataset) (vs : List ℕ) (rows : List (List (Option Term)))
    (narrow : (row : List (Option Term)) → Contains rows row → (t : Term) → Contains (flat_map value_nodes row) (Fixed t) → IsNarrow (Some t)) where
  pub table_plain : Plain n d (each_once vs) (rows_of schema (table_plan vs rows) db) (map (row_solution n vs) rows)
  table_plain = subst (λ found. Plain n d (each_once vs) found (map (row_solution n vs) rows)) (sym (table_rows schema db vs rows)) (record {
    are_rows = λ row c.
        let x = Contains-from_map (value_row vs) rows row c in
        subst (IsRowOf d Default (each_once vs)) x.2
        (projected d Default (λ v. value_const (row_term vs x.0 v)) (each_once vs) (Col 0) [] (λ v. value_cell (row_term vs x.0 v) (narrow_row vs x.0 (narrow x.0 x.1) v)) tt);
    bag = bag_same (map-map (solution_of n (each_once vs)) (value_row vs) rows ∙ (λ i. map (λ row. value_solution n vs row i) rows));
  })
