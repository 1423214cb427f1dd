-- The members of a triple pattern's plan: their rows are the solutions of their rules' quads.
use Rattle.std.proofs.Common.{◌≡◌, ℕ, Bool, true, false, List, [], ◌∷◌, ◌++◌, map, refl, sym, ap, ◌∙◌, true≢false}
use Rattle.std.specs.Prelude.{Option, Some, None, not, ◌&&◌, Contains, filter, flat_map, is_some, if◌then◌else◌}
use Rattle.std.specs.Option.{option_map_or, option_to_list}
use Rattle.std.proofs.lemmas.List.{map-append}
use Rattle.std.proofs.Math.Bool.{and-true}
use Rattle.std.specs.List.{zip, range_with_len}
use Rattle.std.proofs.lemmas.List.Folds.{list_all-append}
use Rattle.vkg_lists.proofs.Nothing.{flat_map_nothing}
use Rattle.vkg_unfolded.proofs.PlanColumns.{names_of_places}
use Rattle.vkg_lists.proofs.Distinct.{Contains-from_distinct, distinct_map_on}
use Rattle.vkg_lists.proofs.Walks.{filter-map, filter-filter, map-map, filter_map_is_flat_map, filter-flat_map, flat_map-flat_map, map-flat_map, map_filter_is_flat_map}
use Rattle.vkg_lists.proofs.Members.{flat_map_agree_on, all_of_each, each_of_all}
use Rattle.vkg_lists.proofs.Counts.{eq_same}
use Rattle.vkg_lists.specs.Sets.{distinct}
use Rattle.vkg_terms.specs.declared.term.Term.{Term}
use Rattle.vkg_terms.specs.Same.{term_eq}
use Rattle.vkg_cells.specs.declared.cell.Cell.{Cell}
use Rattle.vkg_schema.specs.Rows.{Row, Database}
use Rattle.vkg_maps.specs.Dataset.{graph_eq}
use Rattle.vkg_sparql.specs.declared.pattern.Node.{Node}
use Rattle.vkg_sparql.specs.declared.pattern.Node.TheVariants.{Variable, Label, Fixed}
use Rattle.vkg_sparql.specs.declared.pattern.TriplePattern.{TriplePattern}
use Rattle.vkg_algebra.specs.Patterns.{triple_solutions}
use Rattle.vkg_algebra.specs.Solutions.{Solution}
use Rattle.vkg_algebra.specs.Evaluation.{Dataset}
use Rattle.vkg_expr.specs.Expr.{Expr}
use Rattle.vkg_expr.specs.declared.term_expr.TermExpr.{TermExpr}
use Rattle.vkg_expr.specs.TermExprs.{term_expr}
use Rattle.vkg_expr.specs.Value.{value_of, term_of, term_cell, holds}
use Rattle.vkg_expr.proofs.ReadBack.{term_back}
use Rattle.vkg_expr.proofs.TermValues.{term_expr_is}
use Rattle.vkg_plan.specs.Kinds.{Tables}
use Rattle.vkg_row_rules.specs.declared.row_rule.RowRule.{RowRule}
use Rattle.vkg_row_rules.specs.RowDataset.{rule_rows, term_at, graph_at, quads_of, quad_at}
use Rattle.vkg_unfolded.specs.declared.mode.Mode.{Mode}
use Rattle.vkg_unfolded.specs.declared.mode.Mode.TheVariants.{Default, InGraph, Each}
use Rattle.vkg_unfolded.specs.Unfolded.{Name, name_eq, Named, same_name, named, constants, repeats, places, if_each, graph_exprs, not_null, graph_test, rule_member, pattern_member, pattern_places, pattern_names, graph_terms}
use Rattle.vkg_unfolded.specs.StandsFor.{IsIn}
use Rattle.vkg_unfolded.specs.FineRows.{NeverDefault}
use Rattle.vkg_unfolded.proofs.AlgebraColumns.{name_test}
use Rattle.vkg_answers.proofs.Entries.{Entry, entry, same_entry, first, alike, named_solution, repeats_alike}
use Rattle.vkg_answers.proofs.Columns.{hidden_in, graph_fits, graphs_fit}
use Rattle.vkg_answers.proofs.Sources.{all_hold, member_rows, rows_or_none, not_nulls, graph_is, in_graph, graph_passes_is, nulls_are, three_fail}
use Rattle.vkg_answers.proofs.Quads.{NodeBelow, node_entries, pattern_cells, pattern_entries, pattern_ok, quad_answers, constants_are, named_are}

-- ---- the entries of a member's row

entries_of : (row : Row) (xs : List Named) → zip (map (λ (x : Named). x.0) xs) (map (λ e. value_of e row) (map (λ (x : Named). x.1) xs)) ≡ map (entry row) xs
entries_of row [] = refl
entries_of row (x ∷ xs) = ap (λ zs. entry row x ∷ zs) (entries_of row xs)

abbrev pub hidden_places : Mode → RowRule → List Named
hidden_places mode rule = flat_map (λ g. if_each mode (None, g)) (graph_exprs rule)

-- what the hidden columns are
abbrev pub hidden_of : Mode → Option TermExpr → List Named
hidden_of Each (Some g) = (None, term_expr g) ∷ []
hidden_of mode o = []

hidden_is_of : (mode : Mode) (rule : RowRule) → hidden_places mode rule ≡ hidden_of mode rule.graph
hidden_is_of mode rule = of mode rule.graph
  where
    of : (mode : Mode) (o : Option TermExpr) → flat_map (λ g. if_each mode (None, g)) (graph_exprs (record rule { graph = o })) ≡ hidden_of mode o
    of Default None = refl
    of Default (Some g) = refl
    of (InGraph i) None = refl
    of (InGraph i) (Some g) = refl
    of Each None = refl
    of Each (Some g) = refl

admitted_names : (mode : Mode) (o : Option TermExpr) (test : List Expr) → graph_test mode o ≡ Some test → map (λ (x : Named). x.0) (hidden_of mode o) ≡ if_each mode None
admitted_names Default None test e = refl
admitted_names Default (Some g) test e = refl
admitted_names (InGraph i) None test e = refl
admitted_names (InGraph i) (Some g) test e = refl
admitted_names Each None test e = cc
admitted_names Each (Some g) test e = refl

pub names_are_places : (mode : Mode) (p : TriplePattern) (rule : RowRule) (test : List Expr) → graph_test mode rule.graph ≡ Some test → map (λ (x : Named). x.0) (pattern_places mode p rule) ≡ pattern_names mode p
names_are_places mode p rule test e =
    map-append (λ (x : Named). x.0) (distinct same_name (flat_map named (places p rule))) (hidden_places mode rule)
    ∙ (λ i. (distinct_map_on same_name name_eq (λ (x : Named). x.0) (flat_map named (places p rule)) (λ x y c d. refl) ∙ ap (distinct name_eq) (names_of_places (places p rule))) i
    ++ (ap (map (λ (x : Named). x.0)) (hidden_is_of mode rule) ∙ admitted_names mode rule.graph test e) i)

-- first, where each name stands once, and before hidden columns
first-filter : (x y : Name) (zs : List Entry) → name_eq x y ≡ false → first x (filter (λ z. not (name_eq y z.0)) zs) ≡ first x zs
first-filter x y [] h = refl
first-filter x y (z ∷ zs) h = of (first-filter x y zs h) (name_eq y z.0) refl (name_eq x z.0) refl
  where
    of : first x (filter (λ z. not (name_eq y z.0)) zs) ≡ first x zs → (a : Bool) → name_eq y z.0 ≡ a → (b : Bool) → name_eq x z.0 ≡ b →
        first x (if not a then z ∷ filter (λ z. not (name_eq y z.0)) zs else filter (λ z. not (name_eq y z.0)) zs) ≡ (if b then z.1 else first x zs)
    of rest true e true f = absurd (true≢false (sym ((name_test.decides x y).1 (eq_same name_test x z.0 f ∙ sym (eq_same name_test y z.0 e))) ∙ h))
    of rest true e false f = rest
    of rest false e true f = Prim.rw f refl
    of rest false e false f = Prim.rw f rest

pub first-distinct : (x : Name) (zs : List Entry) → first x (distinct same_entry zs) ≡ first x zs
first-distinct x [] = refl
first-distinct x (z ∷ zs) = of (name_eq x z.0) refl (first-distinct x zs)
  where
    of : (b : Bool) → name_eq x z.0 ≡ b → first x (distinct same_entry zs) ≡ first x zs →
        (if b then z.1 else first x (filter (λ y. not (name_eq z.0 y.0)) (distinct same_entry zs))) ≡ (if b then z.1 else first x zs)
    of true e rest = refl
    of false e rest = first-filter x z.0 (distinct same_entry zs) e ∙ rest

hidden_passed : (row : Row) (v : ℕ) (mode : Mode) (o : Option TermExpr) (zs : List Entry) → first (Some v) (zs ++ map (entry row) (hidden_of mode o)) ≡ first (Some v) zs
hidden_passed row v Default o [] = refl
hidden_passed row v (InGraph i) o [] = refl
hidden_passed row v Each None [] = refl
hidden_passed row v Each (Some g) [] = refl
hidden_passed row v mode o (z ∷ zs) = ap (λ c. if name_eq (Some v) z.0 then z.1 else c) (hidden_passed row v mode o zs)

abbrev pub row_cells : Row → List Expr → Row
row_cells row es = map (λ e. value_of e row) es

abbrev pub member_exprs : Mode → TriplePattern → RowRule → List Expr
member_exprs mode p rule = map (λ (x : Named). x.1) (pattern_places mode p rule)

module _ (mode : Mode) (p : TriplePattern) (rule : RowRule) (test : List Expr) (admits : graph_test mode rule.graph ≡ Some test) (row : Row) where
  abbrev pub place_entries : List Entry
  place_entries = pattern_entries p (value_of (term_expr rule.subject) row) (value_of (term_expr rule.predicate) row) (value_of (term_expr rule.object) row)

  pub member_entries : zip (pattern_names mode p) (row_cells row (member_exprs mode p rule)) ≡ distinct same_entry place_entries ++ map (entry row) (hidden_of mode rule.graph)
  member_entries =
      ap (λ ns. zip ns (row_cells row (member_exprs mode p rule))) (sym (names_are_places mode p rule test admits))
      ∙ entries_of row (pattern_places mode p rule)
      ∙ map-append (entry row) (distinct same_name (flat_map named (places p rule))) (hidden_places mode rule)
      ∙ (λ i. (distinct_map_on same_name same_entry (entry row) (flat_map named (places p rule)) (λ x y c d. refl) ∙ ap (distinct same_entry) (named_are row (places p rule))) i ++ map (entry row) (hidden_is_of mode rule i))

  pub member_solution : (n : ℕ) → named_solution n (zip (pattern_names mode p) (row_cells row (member_exprs mode p rule))) ≡ named_solution n place_entries
  member_solution n = ap (named_solution n) member_entries ∙ (λ i. map (λ v. ap term_of (hidden_passed row v mode rule.graph (distinct same_entry place_entries) ∙ first-distinct (Some v) place_entries) i) (range_with_len 0 n))

  -- the entries of places fit any graph
  named_fit : (o : Option Term) (zs : List (Node × Cell)) → graphs_fit o (flat_map (λ (x : Node × Cell). node_entries x.0 x.1) zs) ≡ true
  named_fit o [] = refl
  named_fit o ((Fixed t, e) ∷ zs) = named_fit o zs
  named_fit o ((Variable v, e) ∷ zs) = named_fit o zs
  named_fit o ((Label v, e) ∷ zs) = named_fit o zs

  fit-distinct : (o : Option Term) (zs : List Entry) → graphs_fit o zs ≡ true → graphs_fit o (distinct same_entry zs) ≡ true
  fit-distinct o zs h = all_of_each (graph_fits o) (distinct same_entry zs) (λ x c. each_of_all (graph_fits o) zs h x (Contains-from_distinct same_entry zs x c))

  pub member_fits : (d : Dataset) (g : Option Term) → IsIn d mode g → graphs_fit (hidden_in mode g) (zip (pattern_names mode p) (row_cells row (member_exprs mode p rule))) ≡ graph_is mode g rule.graph row
  member_fits d g h =
      ap (graphs_fit (hidden_in mode g)) member_entries
      ∙ list_all-append (graph_fits (hidden_in mode g)) (distinct same_entry place_entries) (map (entry row) (hidden_of mode rule.graph))
      ∙ ap (λ b. b && graphs_fit (hidden_in mode g) (map (entry row) (hidden_of mode rule.graph))) (fit-distinct (hidden_in mode g) place_entries (named_fit (hidden_in mode g) (pattern_cells p (value_of (term_expr rule.subject) row) (value_of (term_expr rule.predicate) row) (value_of (term_expr rule.object) row))))
      ∙ of mode rule.graph g h admits
    where
      of : (mode : Mode) (o : Option TermExpr) (g : Option Term) → IsIn d mode g → graph_test mode o ≡ Some test → graphs_fit (hidden_in mode g) (map (entry row) (hidden_of mode o)) ≡ graph_is mode g o row
      of Default o g h k = refl
      of (InGraph i) o g h k = refl
      of Each None g h k = cc
      of Each (Some e) None h k = let x : None ≡ Some h.0 = h.1 in cc
      of Each (Some e) (Some i) h k = Prim.rw (term_expr_is e row, term_back (term_at e row)) (and-true (option_map_or (term_eq i) (term_at e row) false))

-- ---- one row of a rule

abbrev pub member_conditions : TriplePattern → RowRule → List Expr → List Expr
member_conditions p rule test = not_null rule ++ test ++ (flat_map constants (places p rule) ++ repeats [] (flat_map named (places p rule)))

module _ (n : ℕ) (d : Dataset) (mode : Mode) (g : Option Term) (h : IsIn d mode g) (p : TriplePattern) (below : NodeBelow n p.subject × NodeBelow n p.predicate × NodeBelow n p.object) (rule : RowRule) where
  abbrev pub answers_at : Row → List Solution
  answers_at row = flat_map (triple_solutions n p) (filter (λ q. graph_eq q.graph g) (option_to_list (quad_at rule row)))

  abbrev pub solution_at : Row → Solution
  solution_at row = named_solution n (pattern_entries p (value_of (term_expr rule.subject) row) (value_of (term_expr rule.predicate) row) (value_of (term_expr rule.object) row))

  pub conditions_are : (test : List Expr) (row : Row) → all_hold (member_conditions p rule test) row
      ≡ (((is_some (term_at rule.subject row) && (is_some (term_at rule.predicate row) && (is_some (term_at rule.object row) && all_hold (not_nulls (graph_terms rule.graph)) row))) && all_hold test row)
      && (pattern_ok p (value_of (term_expr rule.subject) row) (value_of (term_expr rule.predicate) row) (value_of (term_expr rule.object) row)
      && alike [] (pattern_entries p (value_of (term_expr rule.subject) row) (value_of (term_expr rule.predicate) row) (value_of (term_expr rule.object) row))))
  conditions_are test row =
      list_all-append (λ c. holds c row) (not_null rule ++ test) (flat_map constants (places p rule) ++ repeats [] (flat_map named (places p rule)))
      ∙ (λ i. (list_all-append (λ c. holds c row) (not_null rule) test ∙ ap (λ b. b && all_hold test row) (nulls_are rule row rule.graph)) i
      && (list_all-append (λ c. holds c row) (flat_map constants (places p rule)) (repeats [] (flat_map named (places p rule)))
      ∙ (λ j. constants_are row (places p rule) j && (repeats_alike row [] (flat_map named (places p rule)) ∙ ap (alike []) (named_are row (places p rule))) j)) i)

  truths : (a b c m t x k : Bool) → ((((a && (b && (c && m))) && t) && x) && k) ≡ ((a && (b && (c && ((m && t) && k)))) && x)
  truths false b c m t x k = refl
  truths true false c m t x k = refl
  truths true true false m t x k = refl
  truths true true true false t x k = refl
  truths true true true true false x k = refl
  truths true true true true true true true = refl
  truths true true true true true true false = refl
  truths true true true true true false true = refl
  truths true true true true true false false = refl

  answers_are : (row : Row) → answers_at row ≡ (if (is_some (term_at rule.subject row) && (is_some (term_at rule.predicate row) && (is_some (term_at rule.object row) && in_graph g rule.graph row)))
      && (pattern_ok p (value_of (term_expr rule.subject) row) (value_of (term_expr rule.predicate) row) (value_of (term_expr rule.object) row)
      && alike [] (pattern_entries p (value_of (term_expr rule.subject) row) (value_of (term_expr rule.predicate) row) (value_of (term_expr rule.object) row))) then solution_at row ∷ [] else [])
  answers_are row =
      quad_answers n p below g (graph_at rule.graph row) (term_at rule.subject row) (term_at rule.predicate row) (term_at rule.object row)
      ∙ (λ i. if (is_some (term_at rule.subject row) && (is_some (term_at rule.predicate row) && (is_some (term_at rule.object row) && in_graph g rule.graph row)))
      && (pattern_ok p (c rule.subject i) (c rule.predicate i) (c rule.object i) && alike [] (pattern_entries p (c rule.subject i) (c rule.predicate i) (c rule.object i)))
      then named_solution n (pattern_entries p (c rule.subject i) (c rule.predicate i) (c rule.object i)) ∷ [] else [])
    where
      c : (e : TermExpr) → term_cell (term_at e row) ≡ value_of (term_expr e) row
      c e = sym (term_expr_is e row)

  pub row_answers : (test : List Expr) → graph_test mode rule.graph ≡ Some test → (row : Row) → NeverDefault rule.graph row →
      (if all_hold (member_conditions p rule test) row && graph_is mode g rule.graph row then solution_at row ∷ [] else []) ≡ answers_at row
  row_answers test e row k =
      ap (λ b. if b then solution_at row ∷ [] else [])
      (ap (λ b. b && graph_is mode g rule.graph row) (conditions_are test row) ∙ truths (is_some (term_at rule.subject row)) (is_some (term_at rule.predicate row)) (is_some (term_at rule.object row)) (all_hold (not_nulls (graph_terms rule.graph)) row) (all_hold test row) (pattern_ok p (value_of (term_expr rule.subject) row) (value_of (term_expr rule.predicate) row) (value_of (term_expr rule.object) row) && alike [] (pattern_entries p (value_of (term_expr rule.subject) row) (value_of (term_expr rule.predicate) row) (value_of (term_expr rule.object) row))) (graph_is mode g rule.graph row)
      ∙ ap (λ b. (is_some (term_at rule.subject row) && (is_some (term_at rule.predicate row) && (is_some (term_at rule.object row) && b)))
      && (pattern_ok p (value_of (term_expr rule.subject) row) (value_of (term_expr rule.predicate) row) (value_of (term_expr rule.object) row)
      && alike [] (pattern_entries p (value_of (term_expr rule.subject) row) (value_of (term_expr rule.predicate) row) (value_of (term_expr rule.object) row))))
      (sym (ap (λ o. option_map_or (λ test. (all_hold (not_nulls (graph_terms rule.graph)) row && all_hold test row) && graph_is mode g rule.graph row) o false) e) ∙ graph_passes_is d mode g rule.graph row h k))
      ∙ sym (answers_are row)

  -- no member: no quad in the graph
  pub row_none : graph_test mode rule.graph ≡ None → (row : Row) → NeverDefault rule.graph row → [] ≡ answers_at row
  row_none e row k = sym (answers_are row ∙ (λ i. if (is_some (term_at rule.subject row) && (is_some (term_at rule.predicate row) && (is_some (term_at rule.object row) && not_in i))) && x then solution_at row ∷ [] else []) ∙ ap (λ t. if t && x then solution_at row ∷ [] else []) (three_fail (is_some (term_at rule.subject row)) (is_some (term_at rule.predicate row)) (is_some (term_at rule.object row))))
    where
      x : Bool
      x = pattern_ok p (value_of (term_expr rule.subject) row) (value_of (term_expr rule.predicate) row) (value_of (term_expr rule.object) row)
          && alike [] (pattern_entries p (value_of (term_expr rule.subject) row) (value_of (term_expr rule.predicate) row) (value_of (term_expr rule.object) row))

      not_in : in_graph g rule.graph row ≡ false
      not_in = sym (graph_passes_is d mode g rule.graph row h k) ∙ ap (λ o. option_map_or (λ test. (all_hold (not_nulls (graph_terms rule.graph)) row && all_hold test row) && graph_is mode g rule.graph row) o false) e

-- ---- all rows of a rule, and of all rules

module _ (schema : Tables) (db : Database) (n : ℕ) (d : Dataset) (mode : Mode) (g : Option Term) (h : IsIn d mode g) (p : TriplePattern) (below : NodeBelow n p.subject × NodeBelow n p.predicate × NodeBelow n p.object) where
  abbrev pub row_solution : Row → Solution
  row_solution row = named_solution n (zip (pattern_names mode p) row)

  abbrev pub row_fits : Row → Bool
  row_fits row = graphs_fit (hidden_in mode g) (zip (pattern_names mode p) row)

  quads_are : (rule : RowRule) → flat_map (triple_solutions n p) (filter (λ q. graph_eq q.graph g) (quads_of schema db rule)) ≡ flat_map (answers_at n d mode g h p below rule) (rule_rows schema db rule.table rule.join)
  quads_are rule =
      ap (λ qs. flat_map (triple_solutions n p) (filter (λ q. graph_eq q.graph g) qs)) (filter_map_is_flat_map (quad_at rule) (rule_rows schema db rule.table rule.join))
      ∙ ap (flat_map (triple_solutions n p)) (filter-flat_map (λ q. graph_eq q.graph g) (λ row. option_to_list (quad_at rule row)) (rule_rows schema db rule.table rule.join))
      ∙ flat_map-flat_map (triple_solutions n p) (λ row. filter (λ q. graph_eq q.graph g) (option_to_list (quad_at rule row))) (rule_rows schema db rule.table rule.join)

  pub rule_answers : (rule : RowRule) → ((row : Row) → Contains (rule_rows schema db rule.table rule.join) row → NeverDefault rule.graph row) →
      map row_solution (filter row_fits (rows_or_none schema db (pattern_member schema mode p rule))) ≡ flat_map (triple_solutions n p) (filter (λ q. graph_eq q.graph g) (quads_of schema db rule))
  rule_answers rule k = of (graph_test mode rule.graph) refl ∙ sym (quads_are rule)
    where
      rows : List Row
      rows = rule_rows schema db rule.table rule.join

      es : List Expr
      es = member_exprs mode p rule

      of : (o : Option (List Expr)) → graph_test mode rule.graph ≡ o →
          map row_solution (filter row_fits (rows_or_none schema db (rule_member schema rule (member_exprs mode p rule) (flat_map constants (places p rule) ++ repeats [] (flat_map named (places p rule))) o)))
          ≡ flat_map (answers_at n d mode g h p below rule) (rule_rows schema db rule.table rule.join)
      of None e = sym (flat_map_nothing (answers_at n d mode g h p below rule) rows (λ row c. sym (row_none n d mode g h p below rule e row (k row c))))
      of (Some test) e =
          ap (λ rs. map row_solution (filter row_fits rs)) (member_rows schema db rule es (member_conditions p rule test))
          ∙ ap (map row_solution) (filter-map row_fits (λ row. row_cells row es) (filter (all_hold (member_conditions p rule test)) rows))
          ∙ map-map row_solution (λ row. row_cells row es) (filter (λ row. row_fits (row_cells row es)) (filter (all_hold (member_conditions p rule test)) rows))
          ∙ ap (map (λ row. row_solution (row_cells row es))) (filter-filter (λ row. row_fits (row_cells row es)) (all_hold (member_conditions p rule test)) rows)
          ∙ map_filter_is_flat_map (λ row. row_solution (row_cells row es)) (λ row. all_hold (member_conditions p rule test) row && row_fits (row_cells row es)) rows
          ∙ flat_map_agree_on (λ row. if all_hold (member_conditions p rule test) row && row_fits (row_cells row es) then row_solution (row_cells row es) ∷ [] else []) (answers_at n d mode g h p below rule) rows
          (λ row c.
          (λ i. if all_hold (member_conditions p rule test) row && member_fits mode p rule test e row d g h i then member_solution mode p rule test e row n i ∷ [] else [])
          ∙ row_answers n d mode g h p below rule test e row (k row c))

  pub rules_answer : (rules : List RowRule) → ((rule : RowRule) → Contains rules rule → (row : Row) → Contains (rule_rows schema db rule.table rule.join) row → NeverDefault rule.graph row) →
      map row_solution (filter row_fits (flat_map (λ rule. rows_or_none schema db (pattern_member schema mode p rule)) rules)) ≡ flat_map (triple_solutions n p) (filter (λ q. graph_eq q.graph g) (flat_map (quads_of schema db) rules))
  rules_answer rules k =
      ap (map row_solution) (filter-flat_map row_fits (λ rule. rows_or_none schema db (pattern_member schema mode p rule)) rules)
      ∙ map-flat_map row_solution (λ rule. filter row_fits (rows_or_none schema db (pattern_member schema mode p rule))) rules
      ∙ flat_map_agree_on (λ rule. map row_solution (filter row_fits (rows_or_none schema db (pattern_member schema mode p rule)))) (λ rule. flat_map (triple_solutions n p) (filter (λ q. graph_eq q.graph g) (quads_of schema db rule))) rules (λ rule c. rule_answers rule (k rule c))
      ∙ sym (flat_map-flat_map (triple_solutions n p) (λ rule. filter (λ q. graph_eq q.graph g) (quads_of schema db rule)) rules)
      ∙ ap (flat_map (triple_solutions n p)) (sym (filter-flat_map (λ q. graph_eq q.graph g) (quads_of schema db) rules))
