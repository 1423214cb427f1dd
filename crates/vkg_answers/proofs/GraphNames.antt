-- The plan of the graphs' names.
use Rattle.std.proofs.Common.{◌≡◌, Bool, true, false, List, [], ◌∷◌, ◌++◌, map, refl, sym, ap, subst, ◌∙◌, append-nil}
use Rattle.std.proofs.Math.Bool.{and-true}
use Rattle.std.specs.Prelude.{Option, Some, None, not, ◌&&◌, Contains, flat_map, filter_map, is_some, if◌then◌else◌, option_map}
use Rattle.std.specs.Option.{option_map_or, option_to_list}
use Rattle.std.specs.List.Sorted.{IsPermutation}
use Rattle.std.proofs.lemmas.List.Folds.{list_all-append}
use Rattle.vkg_lists.proofs.Nothing.{flat_map_nothing}
use Rattle.vkg_lists.specs.Sets.{HasSameMembers, distinct}
use Rattle.std.proofs.lemmas.List.Sorted.{IsPermutation-map, IsPermutation-trans}
use Rattle.vkg_lists.proofs.Bags.{bag_same}
use Rattle.vkg_lists.proofs.Counts.{eq_same}
use Rattle.vkg_lists.proofs.SameMembers.{members_refl, members_flat_map}
use Rattle.vkg_lists.proofs.Walks.{filter_map_is_flat_map, flat_map-flat_map, map-flat_map, map_filter_is_flat_map}
use Rattle.vkg_lists.proofs.Distinct.{HasSameMembers-distinct, bag_distinct_members, distinct_map_on}
use Rattle.vkg_lists.proofs.Members.{flat_map_agree_on}
use Rattle.vkg_terms.specs.declared.term.Term.{Term}
use Rattle.vkg_terms.specs.NQuads.{Quad}
use Rattle.vkg_terms.specs.Same.{term_eq}
use Rattle.vkg_terms.proofs.SameLemmas.{terms_apart}
use Rattle.vkg_cells.specs.declared.cell.Cell.TheVariants as cell
use Rattle.vkg_schema.specs.Rows.{Row, Database}
use Rattle.vkg_maps.specs.Dataset.{graph_name, quad_from}
use Rattle.vkg_maps.proofs.Quads.{quads_apart}
use Rattle.vkg_algebra.specs.Evaluation.{graph_names}
use Rattle.vkg_expr.specs.Expr.{Expr}
use Rattle.vkg_expr.specs.declared.term_expr.TermExpr.{TermExpr}
use Rattle.vkg_expr.specs.Value.{value_of, term_cell, holds}
use Rattle.vkg_expr.specs.declared.term_expr.TermExpr.TheVariants as term_form
use Rattle.vkg_expr.proofs.TermValues.{term_expr_is}
use Rattle.vkg_plan.specs.Kinds.{Tables}
use Rattle.vkg_plan.specs.Rows.{rows_of, one_row}
use Rattle.vkg_match.specs.Verdict.{Verdict, Never, All, verdict_of}
use Rattle.vkg_row_rules.specs.declared.row_rule.RowRule.{RowRule}
use Rattle.vkg_row_rules.specs.RowDataset.{rule_rows, term_at, graph_at, quads_of, all_quads, dataset_of, quad_at}
use Rattle.vkg_unfolded.specs.Unfolded.{default_graph, graph_test, unless_never, rule_member, graph_exprs, not_null, names_plan, graph_terms}
use Rattle.vkg_unfolded.specs.declared.mode.Mode.TheVariants.{Each}
use Rattle.vkg_unfolded.specs.FineRows.{NeverDefault, IsFineRow}
use Rattle.vkg_answers.proofs.Graphs.{name_row}
use Rattle.vkg_answers.proofs.Sources.{all_hold, member_rows, rows_or_none, union_rows, not_nulls, not_null_is, not_same_const_is, nulls_are}
use Rattle.vkg_answers.proofs.Splits.{no_row}

-- the conditions of a rule with its graph's test alone
pub conditions_alone : (rule : RowRule) (test : List Expr) (row : Row) → all_hold (not_null rule ++ test ++ []) row
    ≡ ((is_some (term_at rule.subject row) && (is_some (term_at rule.predicate row) && (is_some (term_at rule.object row) && all_hold (not_nulls (graph_terms rule.graph)) row))) && all_hold test row)
conditions_alone rule test row =
    ap (λ cs. all_hold cs row) (append-nil (not_null rule ++ test))
    ∙ list_all-append (λ c. holds c row) (not_null rule) test
    ∙ ap (λ b. b && all_hold test row) (nulls_are rule row rule.graph)

-- ---- the names

own : Option (Option Term) → List Term
own (Some (Some i)) = i ∷ []
own o = []

abbrev names_at : Option Quad → List Term
names_at o = flat_map (λ q. option_to_list q.graph) (option_to_list o)

quad_names : (o : Option (Option Term)) (s t u : Option Term) → names_at (quad_from s t u o) ≡ (if is_some s && (is_some t && is_some u) then own o else [])
unfolding own
quad_names o None t u = refl
quad_names o (Some s) None u = refl
quad_names o (Some s) (Some t) None = refl
quad_names None (Some s) (Some t) (Some u) = refl
quad_names (Some None) (Some s) (Some t) (Some u) = refl
quad_names (Some (Some i)) (Some s) (Some t) (Some u) = refl

by_verdict : Verdict → Option Term → Bool
by_verdict Never x = true
by_verdict (All es) x = option_map_or (λ u. not (term_eq u default_graph)) x false && true

name_shape : (a b c : Bool) (x : Option Term) (v : Verdict) → (v ≡ Never → x ≡ Some default_graph → ⊥) →
    (if ((a && (b && (c && (is_some x && true)))) && by_verdict v x) then (term_cell x ∷ []) ∷ [] else no_row) ≡ map name_row (if a && (b && c) then own (option_map graph_name x) else [])
unfolding own by_verdict
name_shape false b c x v k = refl
name_shape true false c x v k = refl
name_shape true true false x v k = refl
name_shape true true true None v k = refl
name_shape true true true (Some t) Never k = of (term_eq t default_graph) refl
  where
    of : (b : Bool) → term_eq t default_graph ≡ b → (cell.Term t ∷ []) ∷ [] ≡ map name_row (own (Some (if b then None else Some t)))
    of true e = absurd (k refl (ap Some (eq_same terms_apart t default_graph e)))
    of false e = refl
name_shape true true true (Some t) (All es) k = of (term_eq t default_graph)
  where
    of : (b : Bool) → (if (true && (not b && true)) then (cell.Term t ∷ []) ∷ [] else no_row) ≡ map name_row (own (Some (if b then None else Some t)))
    of true = refl
    of false = refl

test_is : (e : TermExpr) (row : Row) (v : Verdict) → all_hold (unless_never e v) row ≡ by_verdict v (term_at e row)
unfolding by_verdict
test_is e row Never = refl
test_is e row (All es) = ap (λ b. b && true) (not_same_const_is e default_graph row)

module _ (schema : Tables) (rules : List RowRule) (db : Database) (fine : (rule : RowRule) → Contains rules rule → (row : Row) → Contains (rule_rows schema db rule.table rule.join) row → IsFineRow rule row) where
  -- the names of a rule's quads
  abbrev names_of : RowRule → List Term
  names_of rule = flat_map (λ row. names_at (quad_at rule row)) (rule_rows schema db rule.table rule.join)

  all_names : filter_map (λ q. q.graph) (all_quads schema rules db) ≡ flat_map names_of rules
  all_names =
      filter_map_is_flat_map (λ q. q.graph) (all_quads schema rules db)
      ∙ flat_map-flat_map (λ q. option_to_list q.graph) (quads_of schema db) rules
      ∙ flat_map_agree_on (λ rule. flat_map (λ q. option_to_list q.graph) (quads_of schema db rule)) names_of rules (λ rule c.
      ap (flat_map (λ q. option_to_list q.graph)) (filter_map_is_flat_map (quad_at rule) (rule_rows schema db rule.table rule.join))
      ∙ flat_map-flat_map (λ q. option_to_list q.graph) (λ row. option_to_list (quad_at rule row)) (rule_rows schema db rule.table rule.join))

  names_rule : (rule : RowRule) → Contains rules rule → rows_or_none schema db (rule_member schema rule (graph_exprs rule) [] (graph_test Each rule.graph)) ≡ map name_row (names_of rule)
  unfolding own
  names_rule rule c = of (graph_test Each rule.graph) refl rule.graph refl ∙ sym (map-flat_map name_row (λ row. names_at (quad_at rule row)) rows)
    where
      rows : List Row
      rows = rule_rows schema db rule.table rule.join

      pieces : Row → List Row
      pieces row = map name_row (names_at (quad_at rule row))

      at_row : (o : Option TermExpr) → rule.graph ≡ o → (row : Row) → names_at (quad_at rule row) ≡ (if is_some (term_at rule.subject row) && (is_some (term_at rule.predicate row) && is_some (term_at rule.object row)) then own (graph_at o row) else [])
      at_row o g row = quad_names (graph_at rule.graph row) (term_at rule.subject row) (term_at rule.predicate row) (term_at rule.object row)
          ∙ ap (λ o. if is_some (term_at rule.subject row) && (is_some (term_at rule.predicate row) && is_some (term_at rule.object row)) then own (graph_at o row) else []) g

      none_there : (b : Bool) → no_row ≡ map name_row (if b then [] else [])
      none_there true = refl
      none_there false = refl

      of : (t : Option (List Expr)) → graph_test Each rule.graph ≡ t → (o : Option TermExpr) → rule.graph ≡ o → rows_or_none schema db (rule_member schema rule (graph_exprs rule) [] t) ≡ flat_map pieces rows
      of None e None g = sym (flat_map_nothing pieces rows (λ row k. ap (map name_row) (at_row None g row) ∙ sym (none_there (is_some (term_at rule.subject row) && (is_some (term_at rule.predicate row) && is_some (term_at rule.object row))))))
      of None e (Some x) g = let f : None ≡ graph_test Each (Some x) = sym e ∙ ap (graph_test Each) g in cc
      of (Some test) e None g = let f : Some test ≡ graph_test Each None = sym e ∙ ap (graph_test Each) g in cc
      of (Some test) e (Some x) g =
          let f : Some test ≡ Some (unless_never x (verdict_of x (term_form.Fixed default_graph))) = sym e ∙ ap (graph_test Each) g in
          let is_test : test ≡ unless_never x (verdict_of x (term_form.Fixed default_graph)) = cc in
          member_rows schema db rule (graph_exprs rule) (not_null rule ++ test ++ [])
          ∙ map_filter_is_flat_map (λ row. map (λ e. value_of e row) (graph_exprs rule)) (all_hold (not_null rule ++ test ++ [])) rows
          ∙ flat_map_agree_on (λ row. if all_hold (not_null rule ++ test ++ []) row then map (λ e. value_of e row) (graph_exprs rule) ∷ [] else []) pieces rows (λ row k.
          (λ i. if conditions_alone rule test row i then map (λ e. value_of e row) (graph_exprs (record rule { graph = g i })) ∷ [] else [])
          ∙ (λ i. if ((is_some (term_at rule.subject row) && (is_some (term_at rule.predicate row) && (is_some (term_at rule.object row) && (ap (λ o. all_hold (not_nulls (graph_terms o)) row) g ∙ ap (λ b. b && true) (not_null_is x row)) i)))
          && (ap (λ t. all_hold t row) is_test ∙ test_is x row (verdict_of x (term_form.Fixed default_graph))) i) then (term_expr_is x row i ∷ []) ∷ [] else [])
          ∙ name_shape (is_some (term_at rule.subject row)) (is_some (term_at rule.predicate row)) (is_some (term_at rule.object row)) (term_at x row) (verdict_of x (term_form.Fixed default_graph)) (subst (λ o. NeverDefault o row) g (fine rule c row k).never)
          ∙ sym (ap (map name_row) (at_row (Some x) g row)))

  -- THE NAMES' PLAN
  pub names_are : IsPermutation (rows_of schema (names_plan schema rules) db) (map name_row (graph_names (dataset_of schema rules db)))
  names_are = IsPermutation-trans _ _ _ (bag_same
      (union_rows schema db 1 (λ rule. rule_member schema rule (graph_exprs rule) [] (graph_test Each rule.graph)) rules
      ∙ ap (distinct one_row) (flat_map_agree_on (λ rule. rows_or_none schema db (rule_member schema rule (graph_exprs rule) [] (graph_test Each rule.graph))) (λ rule. map name_row (names_of rule)) rules names_rule
      ∙ sym (map-flat_map name_row names_of rules) ∙ ap (map name_row) (sym all_names))
      ∙ sym (distinct_map_on term_eq one_row name_row (filter_map (λ q. q.graph) (all_quads schema rules db)) (λ x y c d. and-true (term_eq x y)))))
      (IsPermutation-map name_row _ _ (bag_distinct_members terms_apart same_names))
    where
      same_names : HasSameMembers (filter_map (λ q. q.graph) (all_quads schema rules db)) (filter_map (λ q. q.graph) (dataset_of schema rules db))
      same_names = subst (λ xs. HasSameMembers xs (filter_map (λ q. q.graph) (dataset_of schema rules db))) (sym (filter_map_is_flat_map (λ q. q.graph) (all_quads schema rules db)))
          (subst (HasSameMembers (flat_map (λ q. option_to_list q.graph) (all_quads schema rules db))) (sym (filter_map_is_flat_map (λ q. q.graph) (dataset_of schema rules db)))
          (members_flat_map (λ q. option_to_list q.graph) (λ q. option_to_list q.graph) (HasSameMembers-distinct quads_apart (all_quads schema rules db)) (λ q. members_refl)))
