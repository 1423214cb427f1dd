-- The unfolded plan stands for its algebra.
use Rattle.std.proofs.Common.{◌≡◌, ℕ, ◌<◌, Bool, true, false, List, [], ◌∷◌, ◌++◌, map, length, refl, sym, ap, subst, ◌∙◌, true≢false, append-nil}
use Rattle.std.proofs.Math.Bool.{or-true}
use Rattle.std.specs.Prelude.{Option, Some, None, ◌||◌, filter, flat_map, filter_map, Contains, if◌then◌else◌}
use Rattle.std.specs.List.{list_any, cons_option}
use Rattle.std.specs.List.Sorted.{IsPermutation}
use Rattle.std.proofs.lemmas.List.Elements.{Contains-append_left, Contains-append_right}
use Rattle.std.proofs.lemmas.Map.Made.{is_member-Decides}
use Rattle.vkg_lists.proofs.Tests.{nat_test}
use Rattle.vkg_lists.proofs.Counts.{eq_comm}
use Rattle.vkg_lists.proofs.Members.{Contains-flat_map, Contains-here, Contains-map, Contains-only, filter_keeps}
use Rattle.vkg_lists.proofs.Distinct.{any_of-distinct}
use Rattle.vkg_terms.specs.declared.term.Term.{Term}
use Rattle.vkg_terms.specs.declared.term.Term.TheVariants.{Iri}
use Rattle.vkg_terms.specs.NQuads.{Quad}
use Rattle.vkg_terms.specs.Same.{term_eq}
use Rattle.vkg_terms.proofs.SameLemmas.{terms_apart}
use Rattle.vkg_schema.specs.Rows.{Database, Row}
use Rattle.vkg_maps.specs.Dataset.{graph_eq}
use Rattle.vkg_sparql.specs.Lawful.{IsLawful, condition_nodes, name_node, rows_nodes, value_nodes}
use Rattle.vkg_sparql.specs.Query.{Condition}
use Rattle.vkg_sparql.specs.declared.pattern.Node.TheVariants.{Fixed, Variable}
use Rattle.vkg_sparql.specs.declared.pattern.TriplePattern.{TriplePattern}
use Rattle.vkg_sparql.specs.declared.pattern.GraphName.TheVariants as name
use Rattle.vkg_algebra.specs.Algebra.{Algebra, Bgp, Join, LeftJoin, Union, Filter, Graph, Minus, Table, Extend}
use Rattle.vkg_algebra.specs.Lawful.{IsLawfulAlgebra, algebra_nodes, condition_nodes_if_any}
use Rattle.vkg_algebra.specs.Solutions.{Solution, row_solution}
use Rattle.vkg_algebra.specs.Evaluation.{Dataset, evaluate, graph_names}
use Rattle.vkg_algebra.specs.Patterns.{bgp_solutions}
use Rattle.vkg_algebra.specs.Visible.{each_once, has, pattern_variables, visible}
use Rattle.vkg_algebra.proofs.VisibleLemmas.{visible_once}
use Rattle.vkg_expr.specs.Expr.{Expr, Col}
use Rattle.vkg_expr.specs.Logic.{and_of, truth_const}
use Rattle.vkg_expr.specs.Value.{holds, value_of}
use Rattle.vkg_plan.specs.Kinds.{Tables, width}
use Rattle.vkg_plan.specs.Plan.{Plan, Select, Project, Left, AntiJoin, plans}
use Rattle.vkg_plan.specs.Plan as plan
use Rattle.vkg_plan.specs.Rows.{alone_rows, rows_of}
use Rattle.vkg_row_rules.specs.declared.row_rule.RowRule.{RowRule}
use Rattle.vkg_unfolded.specs.declared.mode.Mode.{Mode}
use Rattle.vkg_unfolded.specs.declared.mode.Mode.TheVariants.{Default, InGraph, Each}
use Rattle.vkg_unfolded.specs.Unfolded.{column, graph_column, in_its_graph, visible_column, merged, merged_columns, agreement, overlap, extend_column, table_plan, if_each, unfolded, bgp_plan, names_plan, exists_plan, in_mode, named_graph, each_graph, after, is_pattern}
use Rattle.vkg_unfolded.specs.Conditions.{condition_of}
use Rattle.vkg_unfolded.specs.FineRows.{IsNarrow}
use Rattle.vkg_answers.proofs.Lawful.{lawful_left, lawful_right, lawful_tail, narrow_if_any, variables_below}
use Rattle.vkg_answers.proofs.Reading.{AreBelow, has-each_once, has_union}
use Rattle.vkg_answers.proofs.Steps.{Stands, join_stands, left_stands, below_union, project_rows}
use Rattle.vkg_answers.proofs.OneSide.{filter_stands, widened_stands, append_stands}
use Rattle.vkg_answers.proofs.Graphs.{Plain, plain_named, stands_default, stands_named, after_exists, after_names, name_row}
use Rattle.vkg_answers.proofs.GraphVariable.{variable_stands}
use Rattle.vkg_answers.proofs.Minuses.{minus_stands}
use Rattle.vkg_answers.proofs.Tables.{table_plain}
use Rattle.vkg_answers.proofs.Extends.{extend_stands}

of_both : (n : ℕ) (a b : Algebra) (c : Option Condition) → IsLawfulAlgebra n (LeftJoin a b c) → IsLawful n (algebra_nodes a ++ algebra_nodes b)
of_both n a b c h = lawful_left n (algebra_nodes a ++ algebra_nodes b) (condition_nodes_if_any c) h

named_below : (n w : ℕ) (a : Algebra) → IsLawfulAlgebra n (Graph (name.Each w) a) → w < n
named_below n w a h = h.within (Variable w) (Contains-here (Variable w) (algebra_nodes a))

bound_below : (n : ℕ) (a : Algebra) (w : ℕ) (c : Condition) → IsLawfulAlgebra n (Extend a w c) → w < n
bound_below n a w c h = h.within (Variable w) (Contains-append_right (algebra_nodes a) (Variable w ∷ condition_nodes c) (Variable w) (Contains-here (Variable w) (condition_nodes c)))

one_below : (n w : ℕ) → w < n → AreBelow n (w ∷ [])
one_below n w l v e = subst (λ u. u < n) (Contains-only w v ((is_member-Decides nat_test.decides (w ∷ []) v).0 e)) l

pub visible_below : (n : ℕ) (a : Algebra) → IsLawfulAlgebra n a → AreBelow n (visible a)
visible_below n (Bgp ps) h = λ v e. variables_below n ps h v (sym (has-each_once (flat_map pattern_variables ps) v) ∙ e)
visible_below n (Join a b) h = below_union n (visible a) (visible b) (visible_below n a (lawful_left n (algebra_nodes a) (algebra_nodes b) h)) (visible_below n b (lawful_right n (algebra_nodes a) (algebra_nodes b) h))
visible_below n (LeftJoin a b c) h = let k = of_both n a b c h in below_union n (visible a) (visible b) (visible_below n a (lawful_left n (algebra_nodes a) (algebra_nodes b) k)) (visible_below n b (lawful_right n (algebra_nodes a) (algebra_nodes b) k))
visible_below n (Union a b) h = below_union n (visible a) (visible b) (visible_below n a (lawful_left n (algebra_nodes a) (algebra_nodes b) h)) (visible_below n b (lawful_right n (algebra_nodes a) (algebra_nodes b) h))
visible_below n (Filter c a) h = visible_below n a (lawful_right n (condition_nodes c) (algebra_nodes a) h)
visible_below n (Graph (name.Named i) a) h = λ v e. visible_below n a (lawful_tail n (name_node (name.Named i)) (algebra_nodes a) h) v (sym (has-each_once (visible a) v) ∙ e)
visible_below n (Graph (name.Each w) a) h = below_union n (w ∷ []) (visible a) (one_below n w (named_below n w a h)) (visible_below n a (lawful_tail n (name_node (name.Each w)) (algebra_nodes a) h))
visible_below n (Minus a b) h = visible_below n a (lawful_left n (algebra_nodes a) (algebra_nodes b) h)
visible_below n (Table vs rows) h = λ v e. h.within (Variable v)
    (Contains-append_left (map Variable vs) (rows_nodes rows) (Variable v) (Contains-map Variable vs v ((is_member-Decides nat_test.decides vs v).0 (sym (has-each_once vs v) ∙ e))))
visible_below n (Extend a w c) h = below_union n (visible a) (w ∷ []) (visible_below n a (lawful_left n (algebra_nodes a) (Variable w ∷ condition_nodes c) h)) (one_below n w (bound_below n a w c h))

-- ---- a pattern has no solutions in a graph without a name

absent : (x : Term) (qs : List Quad) → list_any (term_eq x) (filter_map (λ q. q.graph) qs) ≡ false → filter (λ q. graph_eq q.graph (Some x)) qs ≡ []
absent x [] h = refl
absent x (q ∷ qs) h = of (λ k. absent x qs k) q.graph h
  where
    of : (list_any (term_eq x) (filter_map (λ q. q.graph) qs) ≡ false → filter (λ q. graph_eq q.graph (Some x)) qs ≡ []) → (o : Option Term) →
        list_any (term_eq x) (cons_option o (filter_map (λ q. q.graph) qs)) ≡ false →
        (if graph_eq o (Some x) then q ∷ filter (λ q. graph_eq q.graph (Some x)) qs else filter (λ q. graph_eq q.graph (Some x)) qs) ≡ []
    of rest None k = rest k
    of rest (Some t) k = one (term_eq x t) refl k
      where
        one : (b : Bool) → term_eq x t ≡ b → (b || list_any (term_eq x) (filter_map (λ q. q.graph) qs)) ≡ false → (if term_eq t x then q ∷ filter (λ q. graph_eq q.graph (Some x)) qs else filter (λ q. graph_eq q.graph (Some x)) qs) ≡ []
        one true e l = absurd (true≢false l)
        one false e l = Prim.rw (eq_comm terms_apart t x ∙ e) (rest l)

pub pattern_absent : (n : ℕ) (d : Dataset) (i : List ℕ) (a : Algebra) → is_pattern a ≡ true → list_any (term_eq (Iri i)) (graph_names d) ≡ false → evaluate n d a (Some (Iri i)) ≡ []
pattern_absent n d i (Bgp []) h k = absurd (true≢false (sym h))
pattern_absent n d i (Bgp (p ∷ ps)) h k = ap (λ ts. bgp_solutions n (p ∷ ps) ts) (absent (Iri i) d (sym (any_of-distinct terms_apart (filter_map (λ q. q.graph) d) (Iri i)) ∙ k))
pattern_absent n d i (Join a b) h k = absurd (true≢false (sym h))
pattern_absent n d i (LeftJoin a b c) h k = absurd (true≢false (sym h))
pattern_absent n d i (Union a b) h k = absurd (true≢false (sym h))
pattern_absent n d i (Filter c a) h k = absurd (true≢false (sym h))
pattern_absent n d i (Graph g a) h k = absurd (true≢false (sym h))
pattern_absent n d i (Minus a b) h k = absurd (true≢false (sym h))
pattern_absent n d i (Table vs rows) h k = absurd (true≢false (sym h))
pattern_absent n d i (Extend a v c) h k = absurd (true≢false (sym h))

module _ (schema : Tables) (rules : List RowRule) (n : ℕ) (d : Dataset) (db : Database)
    (bgp_stands : (mode : Mode) (ps : List TriplePattern) → IsLawfulAlgebra n (Bgp ps) → Stands n d mode (visible (Bgp ps)) (rows_of schema (bgp_plan schema rules mode ps) db) (evaluate n d (Bgp ps)))
    (names_are : IsPermutation (rows_of schema (names_plan schema rules) db) (map name_row (graph_names d)))
    (exists_are : (i : List ℕ) → rows_of schema (exists_plan schema rules i) db ≡ (if list_any (term_eq (Iri i)) (graph_names d) then [] ∷ [] else []))
    (narrow : (i : Term) → Contains (graph_names d) i → IsNarrow (Some i)) where
  -- under a Project
  over : (mode : Mode) (vs : List ℕ) (es : List Expr) (p : Plan) (A : Option Term → List Solution) → Stands n d mode vs (map (λ row. map (λ e. value_of e row) es) (rows_of schema p db)) A → Stands n d mode vs (rows_of schema (Project es p) db) A
  over mode vs es p A h = subst (λ rows. Stands n d mode vs rows A) (sym (project_rows schema db es p)) h

  plain_over : (vs : List ℕ) (es : List Expr) (p : Plan) (S : List Solution) → Plain n d vs (map (λ row. map (λ e. value_of e row) es) (rows_of schema p db)) S → Plain n d vs (rows_of schema (Project es p) db) S
  plain_over vs es p S h = subst (λ rows. Plain n d vs rows S) (sym (project_rows schema db es p)) h

  in_any_mode : (mode : Mode) (vs : List ℕ) (p : Plan) (S : List Solution) → Plain n d vs (rows_of schema p db) S → Stands n d mode vs (rows_of schema (in_mode schema rules mode vs p) db) (λ g. S)
  in_any_mode Default vs p S a = stands_default n d vs (rows_of schema p db) S a
  in_any_mode (InGraph i) vs p S a = stands_named n d i vs (rows_of schema p db) S a
  in_any_mode Each vs p S a = over Each vs (map (column vs 1) vs ++ Col 0 ∷ []) (plan.Join (plans (names_plan schema rules ∷ p ∷ [])) (truth_const true)) (λ g. S)
      (after_names n d vs (rows_of schema (names_plan schema rules) db) (rows_of schema p db) S names_are narrow a)

  named_plain : (a : Algebra) (i : List ℕ) (p : Plan) → Plain n d (visible a) (rows_of schema p db) (evaluate n d a (Some (Iri i))) →
      Plain n d (visible a) (rows_of schema (named_graph schema rules a i p) db) (if list_any (term_eq (Iri i)) (graph_names d) then evaluate n d a (Some (Iri i)) else [])
  named_plain a i p h = of (is_pattern a) refl
    where
      pattern : is_pattern a ≡ true → (b : Bool) → list_any (term_eq (Iri i)) (graph_names d) ≡ b → Plain n d (visible a) (rows_of schema p db) (if b then evaluate n d a (Some (Iri i)) else [])
      pattern e true f = h
      pattern e false f = subst (Plain n d (visible a) (rows_of schema p db)) (pattern_absent n d i a e f) h

      of : (b : Bool) → is_pattern a ≡ b → Plain n d (visible a) (rows_of schema (if b then p else after (exists_plan schema rules i) (visible a) 0 p) db) (if list_any (term_eq (Iri i)) (graph_names d) then evaluate n d a (Some (Iri i)) else [])
      of true e = pattern e (list_any (term_eq (Iri i)) (graph_names d)) refl
      of false e = plain_over (visible a) (map (column (visible a) 0) (visible a) ++ []) (plan.Join (plans (exists_plan schema rules i ∷ p ∷ [])) (truth_const true)) (if list_any (term_eq (Iri i)) (graph_names d) then evaluate n d a (Some (Iri i)) else [])
          (Prim.rw (exists_are i) (after_exists n d (visible a) (list_any (term_eq (Iri i)) (graph_names d)) (rows_of schema p db) (evaluate n d a (Some (Iri i))) h))

  selected : (b : Bool) (c : Expr) (p : Plan) → rows_of schema (if b then Select c p else p) db ≡ filter (λ row. if b then holds c row else true) (rows_of schema p db)
  selected true c p = refl
  selected false c p = sym (filter_keeps (λ row. true) (rows_of schema p db) (λ x c. refl))

  without : (b : Bool) (p q : Plan) (c : Expr) → rows_of schema (if b then AntiJoin p q c else p) db ≡ (if b then alone_rows (holds c) (rows_of schema p db) (rows_of schema q db) else rows_of schema p db)
  without true p q c = refl
  without false p q c = refl

  abbrev rows_in : Algebra → Mode → List Row
  rows_in a mode = rows_of schema (unfolded schema rules a mode) db

  pub stands : (a : Algebra) (mode : Mode) → IsLawfulAlgebra n a → Stands n d mode (visible a) (rows_of schema (unfolded schema rules a mode) db) (evaluate n d a)
  stands (Bgp ps) mode h = bgp_stands mode ps h
  stands (Join a b) mode h =
      over mode (each_once (visible a ++ visible b)) (merged_columns mode (visible a) (visible b))
      (plan.Join (plans (unfolded schema rules a mode ∷ unfolded schema rules b mode ∷ [])) (and_of (agreement mode (visible a) (visible b)))) (evaluate n d (Join a b))
      (join_stands n d mode (visible a) (visible b) (visible_below n a (lawful_left n (algebra_nodes a) (algebra_nodes b) h)) (visible_below n b (lawful_right n (algebra_nodes a) (algebra_nodes b) h)) (rows_in a mode) (rows_in b mode)
      (evaluate n d a) (evaluate n d b) (stands a mode (lawful_left n (algebra_nodes a) (algebra_nodes b) h)) (stands b mode (lawful_right n (algebra_nodes a) (algebra_nodes b) h)))
  stands (LeftJoin a b c) mode h =
      let k = of_both n a b c h in
      over mode (each_once (visible a ++ visible b)) (merged_columns mode (visible a) (visible b))
      (Left (unfolded schema rules a mode) (unfolded schema rules b mode) (and_of (agreement mode (visible a) (visible b) ++ condition_of (merged mode (visible a) (visible b)) c))) (evaluate n d (LeftJoin a b c))
      (left_stands n d mode (visible a) (visible b) (visible_below n a (lawful_left n (algebra_nodes a) (algebra_nodes b) k)) (visible_below n b (lawful_right n (algebra_nodes a) (algebra_nodes b) k)) (rows_in a mode) (rows_in b mode)
      (evaluate n d a) (evaluate n d b) (stands a mode (lawful_left n (algebra_nodes a) (algebra_nodes b) k)) (stands b mode (lawful_right n (algebra_nodes a) (algebra_nodes b) k)) c
      (narrow_if_any n c (lawful_right n (algebra_nodes a ++ algebra_nodes b) (condition_nodes_if_any c) h)) (width schema (unfolded schema rules b mode)))
  stands (Union a b) mode h =
      let all = each_once (visible a ++ visible b) in
      let left : (v : ℕ) → has (visible a) v ≡ true → has all v ≡ true = λ v e. has_union (visible a) (visible b) v ∙ ap (λ x. x || has (visible b) v) e in
      let right : (v : ℕ) → has (visible b) v ≡ true → has all v ≡ true = λ v e. has_union (visible a) (visible b) v ∙ ap (λ x. has (visible a) v || x) e ∙ or-true (has (visible a) v) in
      Prim.rw (append-nil) (append_stands n d mode all _ _ (evaluate n d a) (evaluate n d b)
      (over mode all (map (visible_column (visible a)) all ++ if_each mode (Col (length (visible a)))) (unfolded schema rules a mode) (evaluate n d a)
      (widened_stands n d mode all (visible a) left (rows_in a mode) (evaluate n d a) (stands a mode (lawful_left n (algebra_nodes a) (algebra_nodes b) h))))
      (over mode all (map (visible_column (visible b)) all ++ if_each mode (Col (length (visible b)))) (unfolded schema rules b mode) (evaluate n d b)
      (widened_stands n d mode all (visible b) right (rows_in b mode) (evaluate n d b) (stands b mode (lawful_right n (algebra_nodes a) (algebra_nodes b) h)))))
  stands (Filter c a) mode h =
      let k = lawful_right n (condition_nodes c) (algebra_nodes a) h in
      filter_stands n d mode (visible a) (visible_below n a k) (rows_in a mode) (evaluate n d a) (stands a mode k) c (narrow_if_any n (Some c) (lawful_left n (condition_nodes c) (algebra_nodes a) h))
  stands (Minus a b) mode h =
      subst (λ rows. Stands n d mode (visible a) rows (evaluate n d (Minus a b)))
      (sym (without (list_any (has (visible b)) (visible a)) (unfolded schema rules a mode) (unfolded schema rules b mode) (and_of (overlap mode (visible a) (visible b)))))
      (minus_stands n d mode (visible a) (visible b) (visible_below n a (lawful_left n (algebra_nodes a) (algebra_nodes b) h)) (rows_in a mode) (rows_in b mode) (evaluate n d a) (evaluate n d b)
      (stands a mode (lawful_left n (algebra_nodes a) (algebra_nodes b) h)) (stands b mode (lawful_right n (algebra_nodes a) (algebra_nodes b) h)))
  stands (Table vs rows) mode h =
      in_any_mode mode (each_once vs) (table_plan vs rows) (map (row_solution n vs) rows)
      (table_plain schema db n d vs rows (λ row c t k. (lawful_right n (map Variable vs) (rows_nodes rows) h).within (Fixed t) (Contains-flat_map (flat_map value_nodes) rows row (Fixed t) c k)))
  stands (Extend a v c) mode h =
      let k = lawful_left n (algebra_nodes a) (Variable v ∷ condition_nodes c) h in
      over mode (each_once (visible a ++ v ∷ [])) (map (extend_column (visible a) v c) (each_once (visible a ++ v ∷ [])) ++ if_each mode (Col (length (visible a)))) (unfolded schema rules a mode) (evaluate n d (Extend a v c))
      (extend_stands n d mode (visible a) (visible_below n a k) v c (narrow_if_any n (Some c) (lawful_tail n (Variable v) (condition_nodes c) (lawful_right n (algebra_nodes a) (Variable v ∷ condition_nodes c) h)))
      (rows_in a mode) (evaluate n d a) (stands a mode k))
  stands (Graph (name.Named i) a) mode h =
      subst (λ vs. Stands n d mode vs (rows_in (Graph (name.Named i) a) mode) (evaluate n d (Graph (name.Named i) a))) (sym (visible_once a))
      (in_any_mode mode (visible a) (named_graph schema rules a i (unfolded schema rules a (InGraph i))) (evaluate n d (Graph (name.Named i) a) None)
      (named_plain a i (unfolded schema rules a (InGraph i)) (plain_named n d i (visible a) (rows_in a (InGraph i)) (evaluate n d a) (stands a (InGraph i) (lawful_tail n (name_node (name.Named i)) (algebra_nodes a) h)))))
  stands (Graph (name.Each v) a) mode h =
      in_any_mode mode (each_once (v ∷ visible a)) (each_graph (visible a) v (unfolded schema rules a Each)) (evaluate n d (Graph (name.Each v) a) None)
      (plain_over (each_once (v ∷ visible a)) (map (graph_column (visible a) v) (each_once (v ∷ visible a))) (in_its_graph (visible a) v (unfolded schema rules a Each)) (evaluate n d (Graph (name.Each v) a) None)
      (Prim.rw (selected (has (visible a) v)) (variable_stands n d (visible a) v (named_below n v a h) (rows_in a Each) (evaluate n d a) (stands a Each (lawful_tail n (name_node (name.Each v)) (algebra_nodes a) h)))))
