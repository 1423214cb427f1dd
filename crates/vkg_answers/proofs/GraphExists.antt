-- One graph's existence, the numbers in the names, and the empty pattern.
use Rattle.std.proofs.Common.{◌≡◌, ℕ, Bool, true, false, List, [], ◌∷◌, ◌++◌, map, refl, sym, ap, subst, ◌∙◌}
use Rattle.std.specs.Prelude.{Option, Some, None, not, ◌&&◌, Contains, filter, flat_map, filter_map, is_some, if◌then◌else◌, option_map}
use Rattle.std.specs.Option.{option_map_or, option_to_list}
use Rattle.std.specs.List.Sorted.{IsPermutation}
use Rattle.std.specs.List.{list_any}
use Rattle.std.proofs.lemmas.Map.Made.{is_member-Decides}
use Rattle.vkg_lists.proofs.Nothing.{member_there, there_member, flat_map_nothing}
use Rattle.vkg_lists.specs.Lists.{is_empty}
use Rattle.std.proofs.lemmas.List.Sorted.{IsPermutation-map, IsPermutation-trans}
use Rattle.vkg_lists.proofs.Bags.{bag_same, bag_filter}
use Rattle.vkg_lists.proofs.Counts.{eq_itself, eq_comm, eq_same}
use Rattle.vkg_lists.proofs.Walks.{filter_map_is_flat_map, map-flat_map, filter-flat_map, map_filter_is_flat_map}
use Rattle.vkg_lists.proofs.Distinct.{Contains-from_distinct, Contains-distinct, IsDistinct-distinct}
use Rattle.vkg_lists.proofs.Members.{Contains-from_map, Contains-filter, Contains-from_filter, Contains-from_flat_map, flat_map_agree_on, filter_drops, Contains-option, Contains-filter_map, Contains-from_filter_map, Contains-only}
use Rattle.vkg_lists.specs.Sets.{distinct}
use Rattle.vkg_lists.proofs.Groups.{flat_map_only}
use Rattle.vkg_lists.proofs.SameMembers.{members_bag}
use Rattle.vkg_lists.proofs.Bools.{same_truth}
use Rattle.vkg_terms.specs.declared.term.Term.{Term}
use Rattle.vkg_terms.specs.declared.term.Term.TheVariants.{Iri}
use Rattle.vkg_terms.specs.NQuads.{Quad}
use Rattle.vkg_terms.specs.Same.{term_eq}
use Rattle.vkg_terms.proofs.SameLemmas.{terms_apart}
use Rattle.vkg_cells.specs.declared.cell.Cell.TheVariants as cell
use Rattle.vkg_schema.specs.Rows.{Row, Database}
use Rattle.vkg_maps.specs.Dataset.{graph_eq, graph_name, quad_from, quad_eq}
use Rattle.vkg_maps.proofs.Quads.{quads_apart, graphs_apart}
use Rattle.vkg_algebra.specs.Evaluation.{Dataset, graph_names, evaluate}
use Rattle.vkg_algebra.specs.Solutions.{unbound}
use Rattle.vkg_algebra.specs.Algebra.{Bgp}
use Rattle.vkg_expr.specs.Expr.{Expr}
use Rattle.vkg_expr.specs.declared.term_expr.TermExpr.{TermExpr}
use Rattle.vkg_plan.specs.Kinds.{Tables}
use Rattle.vkg_plan.specs.Rows.{rows_of, one_row}
use Rattle.vkg_row_rules.specs.declared.row_rule.RowRule.{RowRule}
use Rattle.vkg_row_rules.specs.RowDataset.{rule_rows, term_at, graph_at, quads_of, all_quads, dataset_of, quad_at}
use Rattle.vkg_unfolded.specs.Unfolded.{default_graph, graph_test, rule_member, not_null, names_plan, exists_plan, bgp_plan, graph_terms}
use Rattle.vkg_unfolded.specs.declared.mode.Mode.{Mode}
use Rattle.vkg_unfolded.specs.declared.mode.Mode.TheVariants.{Default, InGraph, Each}
use Rattle.vkg_unfolded.specs.FineRows.{IsNarrow, IsFineRow, IsNarrowGraph}
use Rattle.vkg_unfolded.specs.StandsFor.{IsIn, belongs, hidden_is, solution_of, solutions_of}
use Rattle.vkg_answers.proofs.Graphs.{name_row, Plain, stands_default, stands_named}
use Rattle.vkg_answers.proofs.Sources.{all_hold, member_rows, rows_or_none, union_rows, not_nulls, in_graph, graph_passes_is, three_fail}
use Rattle.vkg_answers.proofs.Columns.{unbound_is}
use Rattle.vkg_answers.proofs.Modes.{IsRowOf}
use Rattle.vkg_answers.proofs.Reading.{cells-nil, cells-cons}
use Rattle.vkg_answers.proofs.Steps.{Stands}
use Rattle.vkg_answers.proofs.GraphNames.{conditions_alone}
use Rattle.vkg_answers.proofs.Splits.{no_row}

-- rows without columns
abbrev empty_row : Quad → Row
empty_row q = []

quad_rows : (g : Option Term) (o : Option (Option Term)) (s t u : Option Term) →
    map empty_row (filter (λ q. graph_eq q.graph g) (option_to_list (quad_from s t u o))) ≡ (if is_some s && (is_some t && (is_some u && option_map_or (λ h. graph_eq h g) o false)) then [] ∷ [] else no_row)
quad_rows g o None t u = refl
quad_rows g o (Some s) None u = refl
quad_rows g o (Some s) (Some t) None = refl
quad_rows g None (Some s) (Some t) (Some u) = refl
quad_rows g (Some h) (Some s) (Some t) (Some u) = of (graph_eq h g)
  where
    of : (b : Bool) → map empty_row (if b then record { subject = s; predicate = t; object = u; graph = h } ∷ [] else []) ≡ (if b then [] ∷ [] else no_row)
    of true = refl
    of false = refl

truths : (a b c m t : Bool) → ((a && (b && (c && m))) && t) ≡ (a && (b && (c && ((m && t) && true))))
truths false b c m t = refl
truths true false c m t = refl
truths true true false m t = refl
truths true true true false t = refl
truths true true true true true = refl
truths true true true true false = refl

-- rows without columns, each once
one_empty : (qs : List Quad) → distinct one_row (map empty_row qs) ≡ (if not (is_empty qs) then [] ∷ [] else [])
one_empty [] = refl
one_empty (q ∷ qs) = ap (λ rs. [] ∷ rs) (filter_drops (λ r. not (one_row [] r)) (distinct one_row (map empty_row qs)) (λ r c.
    let x = Contains-from_map empty_row qs r (Contains-from_distinct one_row (map empty_row qs) r c) in ap (λ s. not (one_row [] s)) (sym x.2)))

-- names and quads
quad_graph : (o : Option (Option Term)) (s t u : Option Term) (q : Quad) → quad_from s t u o ≡ Some q → o ≡ Some q.graph
quad_graph o None t u q e = cc
quad_graph o (Some s) None u q e = cc
quad_graph o (Some s) (Some t) None q e = cc
quad_graph None (Some s) (Some t) (Some u) q e = cc
quad_graph (Some h) (Some s) (Some t) (Some u) q e = let f : record { subject = s; predicate = t; object = u; graph = h } ≡ q = cc in ap (λ (r : Quad). Some r.graph) f

graph_term : (x : Option Term) (i : Term) → option_map graph_name x ≡ Some (Some i) → x ≡ Some i
graph_term None i e = cc
graph_term (Some t) i e = of (term_eq t default_graph) e
  where
    of : (b : Bool) → (Some (if b then None else Some t)) ≡ Some (Some i) → Some t ≡ Some i
    of true f = cc
    of false f = cc

module _ (schema : Tables) (rules : List RowRule) (db : Database) (fine : (rule : RowRule) → Contains rules rule → (row : Row) → Contains (rule_rows schema db rule.table rule.join) row → IsFineRow rule row) where
  -- THE NUMBERS IN THE NAMES
  pub names_narrow : (i : Term) → Contains (graph_names (dataset_of schema rules db)) i → IsNarrow (Some i)
  names_narrow i c =
      let x = Contains-from_filter_map (λ (q : Quad). q.graph) (dataset_of schema rules db) i (Contains-from_distinct term_eq (filter_map (λ q. q.graph) (dataset_of schema rules db)) i c) in
      let y = Contains-from_flat_map (quads_of schema db) rules x.0 (Contains-from_distinct quad_eq (all_quads schema rules db) x.0 x.1) in
      let z = Contains-from_flat_map (λ row. option_to_list (quad_at y.0 row)) (rule_rows schema db y.0.table y.0.join) x.0 (subst (λ l. Contains l x.0) (filter_map_is_flat_map (quad_at y.0) (rule_rows schema db y.0.table y.0.join)) y.2) in
      let e = quad_graph (graph_at y.0.graph z.0) (term_at y.0.subject z.0) (term_at y.0.predicate z.0) (term_at y.0.object z.0) x.0 (Contains-option (quad_at y.0 z.0) x.0 z.2) ∙ ap Some x.2 in
      of y.0.graph z.0 e (fine y.0 y.1 z.0 z.1).graph
    where
      of : (o : Option TermExpr) (row : Row) → graph_at o row ≡ Some (Some i) → IsNarrowGraph o row → IsNarrow (Some i)
      of None row e h = let f : None ≡ Some i = cc in cc
      of (Some x) row e h = subst IsNarrow (graph_term (term_at x row) i e) h

  -- ONE GRAPH'S EXISTENCE
  module _ (i : List ℕ) where
    abbrev in_it : Quad → Bool
    in_it q = graph_eq q.graph (Some (Iri i))

    exists_rule : (rule : RowRule) → Contains rules rule → rows_or_none schema db (rule_member schema rule [] [] (graph_test (InGraph i) rule.graph)) ≡ map empty_row (filter in_it (quads_of schema db rule))
    exists_rule rule c = of (graph_test (InGraph i) rule.graph) refl ∙ sym flat
      where
        rows : List Row
        rows = rule_rows schema db rule.table rule.join

        pieces : Row → List Row
        pieces row = map empty_row (filter in_it (option_to_list (quad_at rule row)))

        flat : map empty_row (filter in_it (quads_of schema db rule)) ≡ flat_map pieces rows
        flat =
            ap (λ qs. map empty_row (filter in_it qs)) (filter_map_is_flat_map (quad_at rule) rows)
            ∙ ap (map empty_row) (filter-flat_map in_it (λ row. option_to_list (quad_at rule row)) rows)
            ∙ map-flat_map empty_row (λ row. filter in_it (option_to_list (quad_at rule row))) rows

        piece : (row : Row) → pieces row ≡ (if is_some (term_at rule.subject row) && (is_some (term_at rule.predicate row) && (is_some (term_at rule.object row) && in_graph (Some (Iri i)) rule.graph row)) then [] ∷ [] else no_row)
        piece row = quad_rows (Some (Iri i)) (graph_at rule.graph row) (term_at rule.subject row) (term_at rule.predicate row) (term_at rule.object row)

        passes : (row : Row) → Contains rows row → (t : Option (List Expr)) → graph_test (InGraph i) rule.graph ≡ t →
            option_map_or (λ test. (all_hold (not_nulls (graph_terms rule.graph)) row && all_hold test row) && true) t false ≡ in_graph (Some (Iri i)) rule.graph row
        passes row k t e = ap (λ o. option_map_or (λ test. (all_hold (not_nulls (graph_terms rule.graph)) row && all_hold test row) && true) o false) (sym e)
            ∙ graph_passes_is [] (InGraph i) (Some (Iri i)) rule.graph row refl (fine rule c row k).never

        of : (t : Option (List Expr)) → graph_test (InGraph i) rule.graph ≡ t → rows_or_none schema db (rule_member schema rule [] [] t) ≡ flat_map pieces rows
        of None e = sym (flat_map_nothing pieces rows (λ row k. sym (
            sym (ap (λ t. if t then [] ∷ [] else no_row) (three_fail (is_some (term_at rule.subject row)) (is_some (term_at rule.predicate row)) (is_some (term_at rule.object row))))
            ∙ ap (λ b. if is_some (term_at rule.subject row) && (is_some (term_at rule.predicate row) && (is_some (term_at rule.object row) && b)) then [] ∷ [] else no_row) (passes row k None e)
            ∙ sym (piece row))))
        of (Some test) e =
            member_rows schema db rule [] (not_null rule ++ test ++ [])
            ∙ map_filter_is_flat_map (λ row. []) (all_hold (not_null rule ++ test ++ [])) rows
            ∙ flat_map_agree_on (λ row. if all_hold (not_null rule ++ test ++ []) row then [] ∷ [] else []) pieces rows (λ row k.
            ap (λ b. if b then [] ∷ [] else no_row) (conditions_alone rule test row
            ∙ truths (is_some (term_at rule.subject row)) (is_some (term_at rule.predicate row)) (is_some (term_at rule.object row)) (all_hold (not_nulls (graph_terms rule.graph)) row) (all_hold test row)
            ∙ ap (λ b. is_some (term_at rule.subject row) && (is_some (term_at rule.predicate row) && (is_some (term_at rule.object row) && b))) (passes row k (Some test) e))
            ∙ sym (piece row))

    exists_member : not (is_empty (filter in_it (all_quads schema rules db))) ≡ list_any (term_eq (Iri i)) (graph_names (dataset_of schema rules db))
    exists_member = same_truth (not (is_empty (filter in_it (all_quads schema rules db)))) (list_any (term_eq (Iri i)) (graph_names (dataset_of schema rules db)))
        (λ h.
        let x = member_there (filter in_it (all_quads schema rules db)) h in
        let y = Contains-from_filter in_it (all_quads schema rules db) x.0 x.1 in
        (is_member-Decides terms_apart.decides (graph_names (dataset_of schema rules db)) (Iri i)).1
        (Contains-distinct terms_apart (filter_map (λ q. q.graph) (dataset_of schema rules db)) (Iri i) (Contains-filter_map (λ (q : Quad). q.graph) (dataset_of schema rules db) x.0 (Iri i) (Contains-distinct quads_apart (all_quads schema rules db) x.0 y.0) (eq_same graphs_apart x.0.graph (Some (Iri i)) y.1))))
        (λ h.
        let c = (is_member-Decides terms_apart.decides (graph_names (dataset_of schema rules db)) (Iri i)).0 h in
        let x = Contains-from_filter_map (λ (q : Quad). q.graph) (dataset_of schema rules db) (Iri i) (Contains-from_distinct term_eq (filter_map (λ q. q.graph) (dataset_of schema rules db)) (Iri i) c) in
        there_member (filter in_it (all_quads schema rules db)) x.0 (Contains-filter in_it (all_quads schema rules db) x.0 (Contains-from_distinct quad_eq (all_quads schema rules db) x.0 x.1) (ap (λ g. graph_eq g (Some (Iri i))) x.2 ∙ eq_itself terms_apart (Iri i))))

    pub exists_are : rows_of schema (exists_plan schema rules i) db ≡ (if list_any (term_eq (Iri i)) (graph_names (dataset_of schema rules db)) then [] ∷ [] else [])
    exists_are =
        union_rows schema db 0 (λ rule. rule_member schema rule [] [] (graph_test (InGraph i) rule.graph)) rules
        ∙ ap (distinct one_row) (flat_map_agree_on (λ rule. rows_or_none schema db (rule_member schema rule [] [] (graph_test (InGraph i) rule.graph))) (λ rule. map empty_row (filter in_it (quads_of schema db rule))) rules exists_rule
        ∙ sym (map-flat_map empty_row (λ rule. filter in_it (quads_of schema db rule)) rules) ∙ ap (map empty_row) (sym (filter-flat_map in_it (quads_of schema db) rules)))
        ∙ one_empty (filter in_it (all_quads schema rules db))
        ∙ ap (λ b. if b then [] ∷ [] else no_row) exists_member

-- THE EMPTY PATTERN
no_columns : (n : ℕ) (row : Row) → solution_of n [] row ≡ unbound n
no_columns n row = sym (unbound_is n 0)

plain_unit : (n : ℕ) (d : Dataset) → Plain n d [] ([] ∷ []) (unbound n ∷ [])
plain_unit n d = record {
  are_rows = λ row c. subst (IsRowOf d Default []) (Contains-only {A = Row} [] row c) (record { size = refl; cells = cells-nil; graph = tt });
  bag = bag_same (ap (λ s. s ∷ []) (no_columns n []));
}

pub empty_stands : (schema : Tables) (rules : List RowRule) (n : ℕ) (d : Dataset) (db : Database) →
    IsPermutation (rows_of schema (names_plan schema rules) db) (map name_row (graph_names d)) → ((i : Term) → Contains (graph_names d) i → IsNarrow (Some i)) →
    (mode : Mode) → Stands n d mode [] (rows_of schema (bgp_plan schema rules mode []) db) (evaluate n d (Bgp []))
empty_stands schema rules n d db p narrow Default = stands_default n d [] ([] ∷ []) (unbound n ∷ []) (plain_unit n d)
empty_stands schema rules n d db p narrow (InGraph i) = stands_named n d i [] ([] ∷ []) (unbound n ∷ []) (plain_unit n d)
empty_stands schema rules n d db p narrow Each = record { are_rows = fine; bag = whole }
  where
    N : List Row
    N = rows_of schema (names_plan schema rules) db

    fine : (row : Row) → Contains N row → IsRowOf d Each [] row
    fine row c =
        let x = Contains-from_map name_row (graph_names d) row ((members_bag p).onto row c) in
        subst (IsRowOf d Each []) x.2 (record { size = refl; cells = cells-cons (cell.Term x.0) [] (refl, narrow x.0 x.1) cells-nil; graph = (x.0, x.1, refl) })

    in_one : (i : Term) (js : List Term) → solutions_of n [] (filter (hidden_is 0 i) (map name_row js)) ≡ flat_map (λ j. if term_eq j i then unbound n ∷ [] else []) js
    in_one i [] = refl
    in_one i (j ∷ js) = Prim.rw (eq_comm terms_apart i j) (of (in_one i js) (term_eq j i))
      where
        of : solutions_of n [] (filter (hidden_is 0 i) (map name_row js)) ≡ flat_map (λ j. if term_eq j i then unbound n ∷ [] else []) js → (b : Bool) →
            solutions_of n [] (if b then name_row j ∷ filter (hidden_is 0 i) (map name_row js) else filter (hidden_is 0 i) (map name_row js)) ≡ (if b then unbound n ∷ [] else []) ++ flat_map (λ j. if term_eq j i then unbound n ∷ [] else []) js
        of rest true = λ t. no_columns n (name_row j) t ∷ rest t
        of rest false = rest

    whole : (g : Option Term) → IsIn d Each g → IsPermutation (solutions_of n [] (filter (belongs Each 0 g) N)) (unbound n ∷ [])
    whole None h = let e : None ≡ Some h.0 = h.1 in cc
    whole (Some i) h =
        let e : i ≡ h.0 = cc in
        IsPermutation-trans _ _ _ (IsPermutation-map (solution_of n []) _ _ (bag_filter (hidden_is 0 i) p))
        (bag_same (in_one i (graph_names d) ∙ flat_map_only terms_apart (graph_names d) i (unbound n ∷ []) (IsDistinct-distinct term_eq _) (subst (Contains (graph_names d)) (sym e) h.2)))
