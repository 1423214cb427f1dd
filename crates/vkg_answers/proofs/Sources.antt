-- The members of a triple pattern's plan over the rows of their rules, and the graph test of each mode.
use Rattle.std.proofs.Common.{◌≡◌, ℕ, Bool, true, false, List, [], ◌∷◌, ◌++◌, map, refl, sym, ap, ◌∙◌, true≢false}
use Rattle.std.proofs.Math.Bool.{and-false}
use Rattle.std.specs.Prelude.{Option, Some, None, not, ◌&&◌, filter, flat_map, filter_map, is_some, if◌then◌else◌, unwrap_or, option_map}
use Rattle.std.specs.Option.{option_map_or}
use Rattle.std.specs.List.{list_all, cons_option}
use Rattle.std.proofs.lemmas.List.Folds.{list_all-append}
use Rattle.vkg_lists.proofs.Counts.{eq_same, eq_comm, eq_other}
use Rattle.vkg_lists.proofs.Walks.{filter-filter}
use Rattle.vkg_lists.specs.Sets.{distinct}
use Rattle.vkg_terms.specs.declared.term.Term.{Term}
use Rattle.vkg_terms.specs.declared.term.Term.TheVariants.{Iri}
use Rattle.vkg_terms.specs.Same.{term_eq}
use Rattle.vkg_terms.proofs.SameLemmas.{terms_apart}
use Rattle.vkg_cells.specs.declared.cell.Cell.{Cell}
use Rattle.vkg_cells.specs.Order.{same}
use Rattle.vkg_cells.specs.declared.cell.Cell.TheVariants as cell
use Rattle.vkg_schema.specs.Rows.{Row, Database, rows_of as table_rows}
use Rattle.vkg_maps.specs.Dataset.{graph_eq, graph_name}
use Rattle.vkg_maps.specs.declared.quad_rule.Join.{Join}
use Rattle.vkg_values.specs.Logic.{not3}
use Rattle.vkg_algebra.specs.Evaluation.{Dataset}
use Rattle.vkg_expr.specs.declared.term_expr.TermExpr.{TermExpr}
use Rattle.vkg_expr.specs.Expr.{Expr, Same, Not, IsNull}
use Rattle.vkg_expr.specs.TermExprs.{term_expr, term_const}
use Rattle.vkg_expr.specs.Value.{value_of, term_cell, truth_of, truth_cell, holds}
use Rattle.vkg_expr.specs.Logic.{and_of}
use Rattle.vkg_expr.specs.declared.term_expr.TermExpr.TheVariants as term_form
use Rattle.vkg_expr.proofs.Conjuncts.{holds-and_of}
use Rattle.vkg_expr.proofs.TermValues.{term_expr_is}
use Rattle.vkg_plan.specs.Kinds.{Tables}
use Rattle.vkg_plan.specs.Plan.{Plan, Project, plans}
use Rattle.vkg_plan.specs.Rows.{rows_of, rows_of_each, pairs, one_row}
use Rattle.vkg_match.specs.Verdict.{Verdict, Never, All, verdict_of}
use Rattle.vkg_row_rules.specs.declared.row_rule.RowRule.{RowRule}
use Rattle.vkg_row_rules.specs.RowDataset.{rule_rows, conditions, term_at, graph_at}
use Rattle.vkg_unfolded.specs.Unfolded.{default_graph, graph_test, unless_never, rule_source, union_of, graph_terms, not_null}
use Rattle.vkg_unfolded.specs.declared.mode.Mode.{Mode}
use Rattle.vkg_unfolded.specs.declared.mode.Mode.TheVariants.{Default, InGraph, Each}
use Rattle.vkg_unfolded.specs.FineRows.{NeverDefault}
use Rattle.vkg_unfolded.specs.StandsFor.{IsIn}
use Rattle.vkg_answers.proofs.Steps.{product-two, project_rows}
use Rattle.vkg_answers.proofs.Entries.{is_same}
use Rattle.vkg_answers.proofs.Values.{bound_means}

abbrev pub all_hold : List Expr → Row → Bool
all_hold cs row = list_all (λ c. holds c row) cs

-- the rows of a rule that pass some conditions
source_rows : (schema : Tables) (db : Database) (rule : RowRule) (cs : List Expr) → rows_of schema (rule_source schema rule cs) db ≡ filter (all_hold cs) (rule_rows schema db rule.table rule.join)
source_rows schema db rule cs = of rule.join
  where
    of : (o : Option Join) → rows_of schema (rule_source schema (record rule { join = o }) cs) db ≡ filter (all_hold cs) (rule_rows schema db rule.table o)
    of None = λ i. filter (λ row. holds-and_of row cs i) (table_rows db rule.table)
    of (Some join) =
        ap (filter (holds (and_of (conditions schema rule.table join ++ cs)))) (product-two (table_rows db rule.table) (table_rows db join.table))
        ∙ (λ i. filter (λ row. (holds-and_of row (conditions schema rule.table join ++ cs) ∙ list_all-append (λ c. holds c row) (conditions schema rule.table join) cs) i) (pairs (table_rows db rule.table) (table_rows db join.table)))
        ∙ sym (filter-filter (all_hold cs) (all_hold (conditions schema rule.table join)) (pairs (table_rows db rule.table) (table_rows db join.table)))

-- the rows of a member
pub member_rows : (schema : Tables) (db : Database) (rule : RowRule) (es cs : List Expr) →
    rows_of schema (Project es (rule_source schema rule cs)) db ≡ map (λ row. map (λ e. value_of e row) es) (filter (all_hold cs) (rule_rows schema db rule.table rule.join))
member_rows schema db rule es cs = project_rows schema db es (rule_source schema rule cs) ∙ ap (map (λ row. map (λ e. value_of e row) es)) (source_rows schema db rule cs)

-- ---- a Distinct of members

abbrev pub rows_or_none : Tables → Database → Option Plan → List Row
rows_or_none schema db o = option_map_or (λ p. rows_of schema p db) o []

all_rows : (schema : Tables) (db : Database) (ps : List Plan) → List Row
all_rows schema db ps = flat_map (λ rows. rows) (rows_of_each schema (plans ps) db)

all_members : {X : Type 0} (schema : Tables) (db : Database) (f : X → Option Plan) (xs : List X) → all_rows schema db (filter_map f xs) ≡ flat_map (λ x. rows_or_none schema db (f x)) xs
unfolding all_rows
all_members schema db f [] = refl
all_members schema db f (x ∷ xs) = of (f x) (all_members schema db f xs)
  where
    of : (o : Option Plan) → all_rows schema db (filter_map f xs) ≡ flat_map (λ x. rows_or_none schema db (f x)) xs →
        all_rows schema db (cons_option o (filter_map f xs)) ≡ rows_or_none schema db o ++ flat_map (λ x. rows_or_none schema db (f x)) xs
    of None rest = rest
    of (Some p) rest = ap (λ rs. rows_of schema p db ++ rs) rest

union_all : (schema : Tables) (db : Database) (n : ℕ) (ps : List Plan) → rows_of schema (union_of n ps) db ≡ distinct one_row (all_rows schema db ps)
unfolding all_rows
union_all schema db n [] = refl
union_all schema db n (p ∷ ps) = refl

pub union_rows : {X : Type 0} (schema : Tables) (db : Database) (n : ℕ) (f : X → Option Plan) (xs : List X) → rows_of schema (union_of n (filter_map f xs)) db ≡ distinct one_row (flat_map (λ x. rows_or_none schema db (f x)) xs)
union_rows schema db n f xs = union_all schema db n (filter_map f xs) ∙ ap (distinct one_row) (all_members schema db f xs)

-- ---- the graph test

abbrev pub not_nulls : List Expr → List Expr
not_nulls es = map (λ e. Not (IsNull e)) es

pub not_null_is : (e : TermExpr) (row : Row) → holds (Not (IsNull (term_expr e))) row ≡ is_some (term_at e row)
not_null_is e row = ap (λ c. unwrap_or (truth_of c) false) (bound_means (value_of (term_expr e) row) (term_at e row) (term_expr_is e row))

-- the terms of a rule's quad are there, with a graph's
pub nulls_are : (rule : RowRule) (row : Row) (o : Option TermExpr) → all_hold (not_null (record rule { graph = o })) row
    ≡ (is_some (term_at rule.subject row) && (is_some (term_at rule.predicate row) && (is_some (term_at rule.object row) && all_hold (not_nulls (graph_terms o)) row)))
nulls_are rule row None = λ i. not_null_is rule.subject row i && (not_null_is rule.predicate row i && (not_null_is rule.object row i && true))
nulls_are rule row (Some e) = λ i. not_null_is rule.subject row i && (not_null_is rule.predicate row i && (not_null_is rule.object row i && all_hold (not_nulls (graph_terms (Some e))) row))

pub same_const_is : (e : TermExpr) (t : Term) (row : Row) → holds (Same (term_expr e) (term_const t)) row ≡ option_map_or (λ u. term_eq u t) (term_at e row) false
same_const_is e t row = ap (λ c. is_same c (cell.Term t)) (term_expr_is e row) ∙ of (term_at e row)
  where
    of : (o : Option Term) → is_same (term_cell o) (cell.Term t) ≡ option_map_or (λ u. term_eq u t) o false
    of None = refl
    of (Some u) = refl

not_same_cells : Cell → Cell → Bool
not_same_cells c d = unwrap_or (truth_of (truth_cell (not3 (truth_of (truth_cell (same c d)))))) false

pub not_same_const_is : (e : TermExpr) (t : Term) (row : Row) → holds (Not (Same (term_expr e) (term_const t))) row ≡ option_map_or (λ u. not (term_eq u t)) (term_at e row) false
unfolding not_same_cells
not_same_const_is e t row = ap (λ c. not_same_cells c (cell.Term t)) (term_expr_is e row) ∙ of (term_at e row)
  where
    of : (o : Option Term) → not_same_cells (term_cell o) (cell.Term t) ≡ option_map_or (λ u. not (term_eq u t)) o false
    of None = refl
    of (Some u) = refl

-- a test that fails, behind three
pub three_fail : (a b c : Bool) → (a && (b && (c && false))) ≡ false
three_fail a b c = ap (λ t. a && (b && t)) (and-false c) ∙ ap (λ t. a && t) (and-false b) ∙ and-false a

-- in mode each the graph's term is the one that is read
abbrev pub graph_is : Mode → Option Term → Option TermExpr → Row → Bool
graph_is Each (Some i) (Some e) row = option_map_or (term_eq i) (term_at e row) false
graph_is Each g e row = false
graph_is mode g e row = true

-- whether a row of a rule passes the graph test and is read in a graph
abbrev pub graph_passes : Mode → Option Term → Option TermExpr → Row → Bool
graph_passes mode g o row = option_map_or (λ test. (all_hold (not_nulls (graph_terms o)) row && all_hold test row) && graph_is mode g o row) (graph_test mode o) false

-- whether its quad is in the graph
abbrev pub in_graph : Option Term → Option TermExpr → Row → Bool
in_graph g o row = option_map_or (λ h. graph_eq h g) (graph_at o row) false

pub graph_passes_is : (d : Dataset) (mode : Mode) (g : Option Term) (o : Option TermExpr) (row : Row) → IsIn d mode g → NeverDefault o row → graph_passes mode g o row ≡ in_graph g o row
graph_passes_is d Default g None row h k = Prim.rw h refl
graph_passes_is d Default g (Some e) row h k = Prim.rw (h, not_null_is e row, same_const_is e default_graph row) (of (term_at e row))
  where
    one : (b : Bool) (t : Term) → (((true && true) && (b && true)) && true) ≡ option_map_or (λ h. graph_eq h None) (Some (if b then None else Some t)) false
    one true t = refl
    one false t = refl

    of : (t : Option Term) → (((is_some t && true) && (option_map_or (λ u. term_eq u default_graph) t false && true)) && true) ≡ option_map_or (λ h. graph_eq h None) (option_map graph_name t) false
    of None = refl
    of (Some t) = one (term_eq t default_graph) t
graph_passes_is d (InGraph i) g None row h k = Prim.rw h refl
graph_passes_is d (InGraph i) g (Some e) row h k = Prim.rw h (of (term_eq (Iri i) default_graph) refl)
  where
    tested : (t : Option Term) → term_eq (Iri i) default_graph ≡ false → (((is_some t && true) && (option_map_or (λ u. term_eq u (Iri i)) t false && true)) && true) ≡ option_map_or (λ h. graph_eq h (Some (Iri i))) (option_map graph_name t) false
    tested None f = refl
    tested (Some t) f = one (term_eq t default_graph) refl
      where
        plain : (b : Bool) → (((true && true) && (b && true)) && true) ≡ b
        plain true = refl
        plain false = refl

        one : (b : Bool) → term_eq t default_graph ≡ b → (((true && true) && (term_eq t (Iri i) && true)) && true) ≡ option_map_or (λ h. graph_eq h (Some (Iri i))) (Some (if b then None else Some t)) false
        one true e2 = plain (term_eq t (Iri i)) ∙ eq_other terms_apart t (Iri i) (λ x. true≢false (sym (ap (λ u. term_eq u default_graph) (sym x) ∙ e2) ∙ f))
        one false e2 = plain (term_eq t (Iri i))

    untested : (t : Option Term) → term_eq (Iri i) default_graph ≡ true → false ≡ option_map_or (λ h. graph_eq h (Some (Iri i))) (option_map graph_name t) false
    untested None f = refl
    untested (Some t) f = one (term_eq t default_graph) refl
      where
        one : (b : Bool) → term_eq t default_graph ≡ b → false ≡ option_map_or (λ h. graph_eq h (Some (Iri i))) (Some (if b then None else Some t)) false
        one true e2 = refl
        one false e2 = sym (eq_other terms_apart t (Iri i) (λ x. true≢false (sym (ap (λ u. term_eq u default_graph) x ∙ f) ∙ e2)))

    of : (b : Bool) → term_eq (Iri i) default_graph ≡ b →
        option_map_or (λ test. ((holds (Not (IsNull (term_expr e))) row && true) && all_hold test row) && true) (if b then None else Some (Same (term_expr e) (term_const (Iri i)) ∷ [])) false
        ≡ option_map_or (λ h. graph_eq h (Some (Iri i))) (graph_at (Some e) row) false
    of true f = untested (term_at e row) f
    of false f = Prim.rw (not_null_is e row, same_const_is e (Iri i) row) (tested (term_at e row) f)
graph_passes_is d Each g None row h k = Prim.rw h.1 refl
graph_passes_is d Each g (Some e) row h k = Prim.rw h.1 (of (verdict_of e (term_form.Fixed default_graph)) refl)
  where
    i : Term
    i = h.0

    free : (t : Option Term) → (t ≡ Some default_graph → ⊥) → (((is_some t && true) && true) && option_map_or (term_eq i) t false) ≡ option_map_or (λ h. graph_eq h (Some i)) (option_map graph_name t) false
    free None f = refl
    free (Some t) f = one (term_eq t default_graph) refl
      where
        one : (b : Bool) → term_eq t default_graph ≡ b → term_eq i t ≡ option_map_or (λ h. graph_eq h (Some i)) (Some (if b then None else Some t)) false
        one true x = absurd (f (ap Some (eq_same terms_apart t default_graph x)))
        one false x = eq_comm terms_apart i t

    tested : (t : Option Term) → (((is_some t && true) && (option_map_or (λ u. not (term_eq u default_graph)) t false && true)) && option_map_or (term_eq i) t false) ≡ option_map_or (λ h. graph_eq h (Some i)) (option_map graph_name t) false
    tested None = refl
    tested (Some t) = one (term_eq t default_graph)
      where
        one : (b : Bool) → (((true && true) && (not b && true)) && term_eq i t) ≡ option_map_or (λ h. graph_eq h (Some i)) (Some (if b then None else Some t)) false
        one true = refl
        one false = eq_comm terms_apart i t

    of : (v : Verdict) → verdict_of e (term_form.Fixed default_graph) ≡ v → (((holds (Not (IsNull (term_expr e))) row && true) && all_hold (unless_never e v) row) && option_map_or (term_eq i) (term_at e row) false) ≡ option_map_or (λ h. graph_eq h (Some i)) (graph_at (Some e) row) false
    of Never x = Prim.rw (not_null_is e row) (free (term_at e row) (k x))
    of (All es) x = Prim.rw (not_null_is e row, not_same_const_is e default_graph row) (tested (term_at e row))
