-- The plan of every algebra has a column of terms for each variable, and in mode each one for the graph.
use Rattle.std.proofs.Common.{◌≡◌, ◌∙◌, ℕ, suc, ◌<◌, ◌≤◌, ◌+◌, Bool, true, false, ⊎_elim, List, [], ◌∷◌, ◌++◌, map, length, nat_eq, refl, sym, ap, subst, arith, append-nil, length-append}
use Rattle.std.specs.Prelude.{Option, Some, None, replicate, flat_map, option_and_then, if◌then◌else◌}
use Rattle.std.specs.List.{AllByRecursion, filter, Contains, list_any, position_or_len}
use Rattle.std.specs.Bool.{then_some}
use Rattle.std.proofs.lemmas.Bool.{true≢false}
use Rattle.std.proofs.lemmas.List.{length-map, replicate-append-replicate}
use Rattle.std.proofs.lemmas.List.Elements.{Contains-append_left, Contains-append_right, Contains-append_cases}
use Rattle.std.proofs.lemmas.Map.Made.{is_member-Decides}
use Rattle.vkg_lists.proofs.Each.{recursion_map_weaken, map_each}
use Rattle.vkg_lists.specs.Options.{with_first, joined}
use Rattle.vkg_lists.specs.Sets.{IsEqualityTest, distinct}
use Rattle.vkg_lists.proofs.Distinct.{Contains-distinct, Contains-from_distinct}
use Rattle.vkg_lists.proofs.Members.{Contains-none, Contains-here, Contains-there, Contains-cons_cases, Contains-flat_map, Contains-from_flat_map, Contains-from_filter, recursion_from_each, recursion_append}
use Rattle.vkg_lists.proofs.Positions.{first_found}
use Rattle.vkg_lists.proofs.Tests.{nat_test, option_test}
use Rattle.vkg_terms.specs.declared.term.Term.{Term}
use Rattle.vkg_cells.specs.declared.cell.SqlType.{SqlType}
use Rattle.vkg_cells.specs.declared.cell.SqlType.TheVariants as kind
use Rattle.vkg_sparql.specs.declared.pattern.Node.{Node}
use Rattle.vkg_sparql.specs.declared.pattern.Node.TheVariants.{Variable as VariableNode, Label, Fixed}
use Rattle.vkg_sparql.specs.declared.pattern.GraphName.TheVariants as name
use Rattle.vkg_sparql.specs.declared.pattern.TriplePattern.{TriplePattern}
use Rattle.vkg_sparql.specs.Query.{Condition, Variable, Constant, Bound, Test, Take, Compare, SameTerm, Not, And, Or}
use Rattle.vkg_algebra.specs.Algebra.{Algebra, Bgp, LeftJoin, Filter, Graph, Minus, Table, Extend}
use Rattle.vkg_algebra.specs.Algebra as algebra
use Rattle.vkg_algebra.specs.Visible.{each_once, has, node_variables, pattern_variables, visible}
use Rattle.vkg_algebra.proofs.VisibleLemmas.{visible_once}
use Rattle.vkg_expr.specs.Expr.{Expr, Col, Same, IsNull, exprs}
use Rattle.vkg_expr.specs.Expr as expr
use Rattle.vkg_expr.specs.Logic.{and_of, or_of, truth_const}
use Rattle.vkg_expr.specs.Typing.{are_all, is_one, kind_of, lexical_kind}
use Rattle.vkg_plan.specs.Kinds.{Kinds, Tables, beside_all, checked, first_checked, side_by_side, kinds_of_each, plan_kinds}
use Rattle.vkg_plan.specs.Plan.{Plan, Unit, Select, Project, Join, Left, AntiJoin, plans, Distinct}
use Rattle.vkg_row_rules.specs.declared.row_rule.RowRule.{RowRule}
use Rattle.vkg_unfolded.specs.declared.mode.Mode.{Mode}
use Rattle.vkg_unfolded.specs.declared.mode.Mode.TheVariants.{Default, InGraph, Each}
use Rattle.vkg_unfolded.specs.Conditions.{condition_of, expr_of, gives_truth, to_term, to_truth, truth_expr, value_expr}
use Rattle.vkg_unfolded.specs.FittingRules.{AreFitting, HasTermColumns, HasAnswerColumns}
use Rattle.vkg_unfolded.specs.Unfolded.{Name, Named, after, agreement, answer_columns, answer_width, bgp_plan, both_there, column, columns_in, each_graph, exists_plan, extend_column, extend_plan, graph_column, if_each, in_its_graph, in_mode, is_pattern, join_plan, key_column, left_column, left_plan, merged, merged_columns, minus_plan, name_eq, named_graph, names_plan, node_names, null_term, numbered, or_null, overlap, pattern_names, pattern_plan, patterns_plan, repeats, right_column, row_plan, row_term, table_plan, unfolded, union_member, union_plan, value_const, visible_column}
use Rattle.vkg_unfolded.proofs.TermKinds.{IsTerm, IsTruth, and_truth, first_term, known_truth, not_truth, null_truth, or_truth, same_truth, term_at}
use Rattle.vkg_unfolded.proofs.PlanColumns.{HasTermKinds, checked_truth, exists_plan_kinds, names_plan_kinds, pattern_plan_kinds, project_kinds, repeats_truth, union_kinds}
use Rattle.vkg_algebra.specs.Translation.{algebra_of}
use Rattle.vkg_algebra.specs.Answer.{selected_variables}

-- ---- conditions

abbrev truth_or_term : Bool → SqlType
truth_or_term true = kind.Bool
truth_or_term false = kind.Term

to_term_kind : (ks : Kinds) (b : Bool) (e : Expr) → kind_of e ks ≡ Some (truth_or_term b) → IsTerm ks (to_term b e)
to_term_kind ks true e h = λ i. then_some (is_one kind.Text (lexical_kind (h i))) kind.Term
to_term_kind ks false e h = h

to_truth_kind : (ks : Kinds) (b : Bool) (e : Expr) → kind_of e ks ≡ Some (truth_or_term b) → IsTruth ks (to_truth b e)
to_truth_kind ks true e h = h
to_truth_kind ks false e h = λ i. then_some (is_one kind.Term (h i)) kind.Bool

expr_kind : (ks : Kinds) (at : ℕ → Expr) → ((v : ℕ) → IsTerm ks (at v)) → (c : Condition) → kind_of (expr_of at c) ks ≡ Some (truth_or_term (gives_truth c))
expr_kind ks at h (Variable v) = h v
expr_kind ks at h (Constant t) = refl
expr_kind ks at h (Bound v) = not_truth ks (IsNull (at v)) (null_truth ks (at v) (h v))
expr_kind ks at h (Test f a) = λ i. then_some (are_all kind.Term (with_first (to_term_kind ks (gives_truth a) (expr_of at a) (expr_kind ks at h a) i) (Some []))) kind.Bool
expr_kind ks at h (Take f a) = λ i. then_some (are_all kind.Term (with_first (to_term_kind ks (gives_truth a) (expr_of at a) (expr_kind ks at h a) i) (Some []))) kind.Term
expr_kind ks at h (Compare f a b) = λ i. then_some (are_all kind.Term (with_first (to_term_kind ks (gives_truth a) (expr_of at a) (expr_kind ks at h a) i) (with_first (to_term_kind ks (gives_truth b) (expr_of at b) (expr_kind ks at h b) i) (Some [])))) kind.Bool
expr_kind ks at h (SameTerm a b) = same_truth ks (to_term (gives_truth a) (expr_of at a)) (to_term (gives_truth b) (expr_of at b)) (to_term_kind ks (gives_truth a) (expr_of at a) (expr_kind ks at h a)) (to_term_kind ks (gives_truth b) (expr_of at b) (expr_kind ks at h b))
expr_kind ks at h (Not a) = not_truth ks (to_truth (gives_truth a) (expr_of at a)) (to_truth_kind ks (gives_truth a) (expr_of at a) (expr_kind ks at h a))
expr_kind ks at h (And a b) = λ i. then_some (are_all kind.Bool (with_first (to_truth_kind ks (gives_truth a) (expr_of at a) (expr_kind ks at h a) i) (with_first (to_truth_kind ks (gives_truth b) (expr_of at b) (expr_kind ks at h b) i) (Some [])))) kind.Bool
expr_kind ks at h (Or a b) = λ i. then_some (are_all kind.Bool (with_first (to_truth_kind ks (gives_truth a) (expr_of at a) (expr_kind ks at h a) i) (with_first (to_truth_kind ks (gives_truth b) (expr_of at b) (expr_kind ks at h b) i) (Some [])))) kind.Bool

filter_truth : (ks : Kinds) (at : ℕ → Expr) → ((v : ℕ) → IsTerm ks (at v)) → (c : Condition) → IsTruth ks (truth_expr at c)
filter_truth ks at h c = to_truth_kind ks (gives_truth c) (expr_of at c) (expr_kind ks at h c)

value_term : (ks : Kinds) (at : ℕ → Expr) → ((v : ℕ) → IsTerm ks (at v)) → (c : Condition) → IsTerm ks (value_expr at c)
value_term ks at h c = to_term_kind ks (gives_truth c) (expr_of at c) (expr_kind ks at h c)

condition_truth : (ks : Kinds) (at : ℕ → Expr) → ((v : ℕ) → IsTerm ks (at v)) → (c : Option Condition) → AllByRecursion (IsTruth ks) (condition_of at c)
condition_truth ks at h None = tt
condition_truth ks at h (Some c) = (filter_truth ks at h c, tt)

-- ---- places

pub name_test : IsEqualityTest name_eq
name_test = option_test nat_test

pub has_place : (vs : List ℕ) (v : ℕ) → has vs v ≡ true → position_or_len (nat_eq v) vs < length vs
has_place vs v h = (first_found (nat_eq v) vs h).1.inside

name_place : (names : List Name) (x : Name) → Contains names x → position_or_len (name_eq x) names < length names
name_place names x c = (first_found (name_eq x) names ((is_member-Decides name_test.decides names x).1 c)).1.inside

-- ---- basic graph patterns

numbered_fit : (total n : ℕ) (xs : List Name) → n + length xs ≤ total → AllByRecursion (λ (x : Named). IsTerm (replicate total kind.Term) x.1) (numbered n xs)
numbered_fit total n [] h = tt
numbered_fit total n (x ∷ xs) h = (term_at total n (omega (arith, h)), numbered_fit total (suc n) xs (omega (arith, h)))

node_named : (x : Node) (v : ℕ) → Contains (node_variables x) v → Contains (node_names x) (Some v)
node_named (VariableNode w) v c = ⊎_elim (λ e. subst (λ u. Contains (Some w ∷ []) (Some u)) e (Contains-here (Some w) [])) (λ k. absurd (Contains-none v k)) (Contains-cons_cases w [] v c)
node_named (Label w) v c = absurd (Contains-none v c)
node_named (Fixed t) v c = absurd (Contains-none v c)

pattern_named : (mode : Mode) (p : TriplePattern) (v : ℕ) → Contains (pattern_variables p) v → Contains (pattern_names mode p) (Some v)
pattern_named mode p v c =
    Contains-append_left (distinct name_eq nodes) (if_each mode None) (Some v)
    (Contains-distinct name_test nodes (Some v)
    (⊎_elim (λ k. ⊎_elim (λ l. Contains-flat_map node_names (p.subject ∷ p.predicate ∷ p.object ∷ []) p.subject (Some v) (Contains-here p.subject (p.predicate ∷ p.object ∷ [])) (node_named p.subject v l))
    (λ l. Contains-flat_map node_names (p.subject ∷ p.predicate ∷ p.object ∷ []) p.predicate (Some v) (Contains-there p.subject (p.predicate ∷ p.object ∷ []) p.predicate (Contains-here p.predicate (p.object ∷ []))) (node_named p.predicate v l))
    (Contains-append_cases (node_variables p.subject) (node_variables p.predicate) v k))
    (λ k. Contains-flat_map node_names (p.subject ∷ p.predicate ∷ p.object ∷ []) p.object (Some v) (Contains-there p.subject (p.predicate ∷ p.object ∷ []) p.object (Contains-there p.predicate (p.object ∷ []) p.object (Contains-here p.object []))) (node_named p.object v k))
    (Contains-append_cases (node_variables p.subject ++ node_variables p.predicate) (node_variables p.object) v c)))
  where
    nodes : List Name
    nodes = flat_map node_names (p.subject ∷ p.predicate ∷ p.object ∷ [])

bgp_named : (mode : Mode) (ps : List TriplePattern) (v : ℕ) → Contains (flat_map pattern_variables ps) v → Contains (flat_map (pattern_names mode) ps) (Some v)
bgp_named mode ps v c =
    let w = Contains-from_flat_map pattern_variables ps v c in
    Contains-flat_map (pattern_names mode) ps w.0 (Some v) w.1 (pattern_named mode w.0 v w.2)

-- a name that has a column
abbrev HasPlace : List Name → Name → Type 0
HasPlace names x = position_or_len (name_eq x) names < length names

graph_place : (mode : Mode) (p : TriplePattern) (ps : List TriplePattern) → AllByRecursion (HasPlace (flat_map (pattern_names mode) (p ∷ ps))) (if_each mode None)
graph_place Default p ps = tt
graph_place (InGraph i) p ps = tt
graph_place Each p ps = (
  name_place (flat_map (pattern_names Each) (p ∷ ps)) None
      (Contains-flat_map (pattern_names Each) (p ∷ ps) p None (Contains-here p ps) (Contains-append_right (distinct name_eq (flat_map node_names (p.subject ∷ p.predicate ∷ p.object ∷ []))) (None ∷ []) None (Contains-here None []))),
  tt,
)

wanted_places : (mode : Mode) (p : TriplePattern) (ps : List TriplePattern) → AllByRecursion (HasPlace (flat_map (pattern_names mode) (p ∷ ps))) (map Some (visible (Bgp (p ∷ ps))) ++ if_each mode None)
wanted_places mode p ps =
    recursion_append (HasPlace names) (map Some (visible (Bgp (p ∷ ps)))) (if_each mode None)
    (recursion_map_weaken (λ v. Contains names (Some v)) (HasPlace names) Some (λ v k. name_place names (Some v) k) (visible (Bgp (p ∷ ps)))
    (recursion_from_each (λ v. Contains names (Some v)) (visible (Bgp (p ∷ ps))) (λ v c. bgp_named mode (p ∷ ps) v (Contains-from_distinct nat_eq (flat_map pattern_variables (p ∷ ps)) v c))))
    (graph_place mode p ps)
  where
    names : List Name
    names = flat_map (pattern_names mode) (p ∷ ps)

with_graph_length : {X : Type 0} (mode : Mode) (f : ℕ → X) (us : List ℕ) (e : X) → length (map f us ++ if_each mode e) ≡ columns_in mode us
with_graph_length Default f us e = ap length (append-nil (map f us)) ∙ length-map us f
with_graph_length (InGraph i) f us e = ap length (append-nil (map f us)) ∙ length-map us f
with_graph_length Each f us e = length-append (map f us) (e ∷ []) ∙ omega (arith, length-map us f)

module _ (schema : Tables) (rules : List RowRule) (fit : AreFitting schema rules) where
  each_kinds : (mode : Mode) (ps : List TriplePattern) → kinds_of_each schema (plans (map (pattern_plan schema rules mode) ps)) ≡ Some (map (λ p. replicate (length (pattern_names mode p)) kind.Term) ps)
  each_kinds mode [] = refl
  each_kinds mode (p ∷ ps) = λ i. with_first (pattern_plan_kinds schema rules fit mode p i) (each_kinds mode ps i)

  joined_kinds : (mode : Mode) (ps : List TriplePattern) → side_by_side (map (λ p. replicate (length (pattern_names mode p)) kind.Term) ps) ≡ replicate (length (flat_map (pattern_names mode) ps)) kind.Term
  joined_kinds mode [] = refl
  joined_kinds mode (p ∷ ps) =
      ap (λ l. replicate (length (pattern_names mode p)) kind.Term ++ l) (joined_kinds mode ps)
      ∙ replicate-append-replicate (length (pattern_names mode p)) (length (flat_map (pattern_names mode) ps)) kind.Term
      ∙ ap (λ n. replicate n kind.Term) (sym (length-append (pattern_names mode p) (flat_map (pattern_names mode) ps)))

  patterns_kinds : (mode : Mode) (p : TriplePattern) (ps : List TriplePattern) → HasTermKinds schema (columns_in mode (visible (Bgp (p ∷ ps)))) (patterns_plan schema rules mode (visible (Bgp (p ∷ ps))) (p ∷ ps))
  patterns_kinds mode p ps =
      project_kinds schema (map to_column wanted) (Join (plans (map (pattern_plan schema rules mode) (p ∷ ps))) c) ks rows
      (recursion_map_weaken (HasPlace names) (IsTerm ks) to_column (λ x k. term_at (length names) (position_or_len (name_eq x) names) k) wanted (wanted_places mode p ps))
      ∙ ap (λ n. Some (replicate n kind.Term)) (length-map wanted to_column ∙ with_graph_length mode Some (visible (Bgp (p ∷ ps))) None)
    where
      names : List Name
      names = flat_map (pattern_names mode) (p ∷ ps)

      wanted : List Name
      wanted = map Some (visible (Bgp (p ∷ ps))) ++ if_each mode None

      to_column : Name → Expr
      to_column x = Col (position_or_len (name_eq x) names)

      ks : Kinds
      ks = replicate (length names) kind.Term

      c : Expr
      c = and_of (repeats [] (numbered 0 names))

      rows : plan_kinds schema (Join (plans (map (pattern_plan schema rules mode) (p ∷ ps))) c) ≡ Some ks
      rows =
          ap (λ o. checked c (beside_all o)) (each_kinds mode (p ∷ ps))
          ∙ ap (λ l. checked c (Some l)) (joined_kinds mode (p ∷ ps))
          ∙ checked_truth c ks (and_truth ks (repeats [] (numbered 0 names)) (repeats_truth ks [] (numbered 0 names) tt (numbered_fit (length names) 0 names (omega arith))))

  bgp_kinds : (ps : List TriplePattern) (mode : Mode) → HasTermKinds schema (columns_in mode (visible (Bgp ps))) (bgp_plan schema rules mode ps)
  bgp_kinds [] Default = refl
  bgp_kinds [] (InGraph i) = refl
  bgp_kinds [] Each = names_plan_kinds schema rules fit
  bgp_kinds (p ∷ ps) Default = patterns_kinds Default p ps
  bgp_kinds (p ∷ ps) (InGraph i) = patterns_kinds (InGraph i) p ps
  bgp_kinds (p ∷ ps) Each = patterns_kinds Each p ps

-- ---- two algebras

columns_most : (mode : Mode) (vs : List ℕ) → length vs ≤ columns_in mode vs
columns_most Default vs = omega arith
columns_most (InGraph i) vs = omega arith
columns_most Each vs = omega arith

module _ (mode : Mode) (vs ws : List ℕ) where
  abbrev both : ℕ
  both = columns_in mode vs + columns_in mode ws

  left_term : (v : ℕ) → has vs v ≡ true → IsTerm (replicate both kind.Term) (left_column vs v)
  left_term v h = let k = has_place vs v h in let m = columns_most mode vs in term_at both (position_or_len (nat_eq v) vs) (omega (arith, k, m))

  right_term : (v : ℕ) → has ws v ≡ true → IsTerm (replicate both kind.Term) (right_column mode vs ws v)
  right_term v h = let k = has_place ws v h in let m = columns_most mode ws in term_at both (columns_in mode vs + position_or_len (nat_eq v) ws) (omega (arith, k, m))

  merged_term : (v : ℕ) → IsTerm (replicate both kind.Term) (merged mode vs ws v)
  merged_term v = by (has vs v) (has ws v) refl refl
    where
      ks : Kinds
      ks = replicate both kind.Term

      l : Expr
      l = left_column vs v

      r : Expr
      r = right_column mode vs ws v

      by : (b c : Bool) → has vs v ≡ b → has ws v ≡ c → IsTerm ks (if b then (if c then expr.Coalesce (exprs (l ∷ r ∷ [])) else l) else (if c then r else null_term))
      by true true h k = first_term ks l r (left_term v h) (right_term v k)
      by true false h k = left_term v h
      by false true h k = right_term v k
      by false false h k = refl

merged_terms : (mode : Mode) (vs ws : List ℕ) → AllByRecursion (IsTerm (replicate (both mode vs ws) kind.Term)) (merged_columns mode vs ws)
merged_terms mode vs ws =
    recursion_append (IsTerm ks) (map (merged mode vs ws) (each_once (vs ++ ws))) (if_each mode (Col (length vs)))
    (map_each (IsTerm ks) (merged mode vs ws) (each_once (vs ++ ws)) (λ v c. merged_term mode vs ws v)) (hidden mode)
  where
    ks : Kinds
    ks = replicate (both mode vs ws) kind.Term

    hidden : (m : Mode) → AllByRecursion (IsTerm (replicate (both m vs ws) kind.Term)) (if_each m (Col (length vs)))
    hidden Default = tt
    hidden (InGraph i) = tt
    hidden Each = (term_at (suc (length vs) + suc (length ws)) (length vs) (omega arith), tt)

abbrev shared : Mode → List ℕ → List ℕ → ℕ → Expr
shared mode vs ws v = or_null (left_column vs v) (right_column mode vs ws v)

shared_truth : (mode : Mode) (vs ws : List ℕ) → AllByRecursion (IsTruth (replicate (both mode vs ws) kind.Term)) (map (shared mode vs ws) (filter (has ws) vs))
shared_truth mode vs ws =
    map_each (IsTruth ks) (shared mode vs ws) (filter (has ws) vs) (λ v c.
    let w = Contains-from_filter (has ws) vs v c in
    let l = left_term mode vs ws v ((is_member-Decides nat_test.decides vs v).1 w.0) in
    let r = right_term mode vs ws v w.1 in
    or_truth ks (IsNull (left_column vs v) ∷ IsNull (right_column mode vs ws v) ∷ Same (left_column vs v) (right_column mode vs ws v) ∷ [])
    (null_truth ks (left_column vs v) l, (null_truth ks (right_column mode vs ws v) r, (same_truth ks (left_column vs v) (right_column mode vs ws v) l r, tt))))
  where
    ks : Kinds
    ks = replicate (both mode vs ws) kind.Term

graphs_truth : (mode : Mode) (vs ws : List ℕ) → AllByRecursion (IsTruth (replicate (both mode vs ws) kind.Term)) (if_each mode (Same (Col (length vs)) (Col (columns_in mode vs + length ws))))
graphs_truth Default vs ws = tt
graphs_truth (InGraph i) vs ws = tt
graphs_truth Each vs ws = (same_truth (replicate (suc (length vs) + suc (length ws)) kind.Term) (Col (length vs)) (Col (suc (length vs) + length ws)) (term_at (suc (length vs) + suc (length ws)) (length vs) (omega arith)) (term_at (suc (length vs) + suc (length ws)) (suc (length vs) + length ws) (omega arith)), tt)

agreement_truth : (mode : Mode) (vs ws : List ℕ) → AllByRecursion (IsTruth (replicate (both mode vs ws) kind.Term)) (agreement mode vs ws)
agreement_truth mode vs ws =
    recursion_append (IsTruth (replicate (both mode vs ws) kind.Term)) (map (shared mode vs ws) (filter (has ws) vs)) (if_each mode (Same (Col (length vs)) (Col (columns_in mode vs + length ws))))
    (shared_truth mode vs ws) (graphs_truth mode vs ws)

overlap_truth : (mode : Mode) (vs ws : List ℕ) → AllByRecursion (IsTruth (replicate (both mode vs ws) kind.Term)) (overlap mode vs ws)
overlap_truth mode vs ws =
    recursion_append (IsTruth ks) (graphs ++ map (shared mode vs ws) (filter (has ws) vs)) (some ∷ [])
    (recursion_append (IsTruth ks) graphs (map (shared mode vs ws) (filter (has ws) vs)) (graphs_truth mode vs ws) (shared_truth mode vs ws)) (some_truth, tt)
  where
    ks : Kinds
    ks = replicate (both mode vs ws) kind.Term

    graphs : List Expr
    graphs = if_each mode (Same (Col (length vs)) (Col (columns_in mode vs + length ws)))

    some : Expr
    some = or_of (map (both_there mode vs ws) (filter (has ws) vs))

    some_truth : IsTruth ks some
    some_truth = or_truth ks (map (both_there mode vs ws) (filter (has ws) vs)) (map_each (IsTruth ks) (both_there mode vs ws) (filter (has ws) vs) (λ v c.
        let w = Contains-from_filter (has ws) vs v c in
        let l = left_term mode vs ws v ((is_member-Decides nat_test.decides vs v).1 w.0) in
        let r = right_term mode vs ws v w.1 in
        and_truth ks (expr.Not (IsNull (left_column vs v)) ∷ expr.Not (IsNull (right_column mode vs ws v)) ∷ [])
        (known_truth ks (left_column vs v) l, (known_truth ks (right_column mode vs ws v) r, tt))))

module _ (schema : Tables) where
  pair_kinds : (n m : ℕ) (p q : Plan) (c : Expr) → HasTermKinds schema n p → HasTermKinds schema m q → IsTruth (replicate (n + m) kind.Term) c → plan_kinds schema (Join (plans (p ∷ q ∷ [])) c) ≡ Some (replicate (n + m) kind.Term)
  pair_kinds n m p q c h k t =
      (λ i. checked c (beside_all (with_first (h i) (with_first (k i) (Some [])))))
      ∙ ap (λ l. checked c (Some (replicate n kind.Term ++ l))) (append-nil (replicate m kind.Term))
      ∙ ap (λ l. checked c (Some l)) (replicate-append-replicate n m kind.Term)
      ∙ checked_truth c (replicate (n + m) kind.Term) t

  left_kinds : (n m : ℕ) (p q : Plan) (c : Expr) → HasTermKinds schema n p → HasTermKinds schema m q → IsTruth (replicate (n + m) kind.Term) c → plan_kinds schema (Left p q c) ≡ Some (replicate (n + m) kind.Term)
  left_kinds n m p q c h k t =
      (λ i. checked c (joined (h i) (k i)))
      ∙ ap (λ l. checked c (Some l)) (replicate-append-replicate n m kind.Term)
      ∙ checked_truth c (replicate (n + m) kind.Term) t

  join_plan_kinds : (mode : Mode) (vs ws : List ℕ) (p q : Plan) → HasTermKinds schema (columns_in mode vs) p → HasTermKinds schema (columns_in mode ws) q → HasTermKinds schema (columns_in mode (each_once (vs ++ ws))) (join_plan mode vs ws p q)
  join_plan_kinds mode vs ws p q h k =
      let c = and_of (agreement mode vs ws) in
      let ks = replicate (both mode vs ws) kind.Term in
      project_kinds schema (merged_columns mode vs ws) (Join (plans (p ∷ q ∷ [])) c) ks
      (pair_kinds (columns_in mode vs) (columns_in mode ws) p q c h k (and_truth ks (agreement mode vs ws) (agreement_truth mode vs ws)))
      (merged_terms mode vs ws)
      ∙ ap (λ n. Some (replicate n kind.Term)) (with_graph_length mode (merged mode vs ws) (each_once (vs ++ ws)) (Col (length vs)))

  left_plan_kinds : (mode : Mode) (vs ws : List ℕ) (o : Option Condition) (p q : Plan) → HasTermKinds schema (columns_in mode vs) p → HasTermKinds schema (columns_in mode ws) q → HasTermKinds schema (columns_in mode (each_once (vs ++ ws))) (left_plan mode vs ws o p q)
  left_plan_kinds mode vs ws o p q h k =
      let cs = agreement mode vs ws ++ condition_of (merged mode vs ws) o in
      let ks = replicate (both mode vs ws) kind.Term in
      project_kinds schema (merged_columns mode vs ws) (Left p q (and_of cs)) ks
      (left_kinds (columns_in mode vs) (columns_in mode ws) p q (and_of cs) h k (and_truth ks cs (recursion_append (IsTruth ks) (agreement mode vs ws) (condition_of (merged mode vs ws) o) (agreement_truth mode vs ws) (condition_truth ks (merged mode vs ws) (merged_term mode vs ws) o))))
      (merged_terms mode vs ws)
      ∙ ap (λ n. Some (replicate n kind.Term)) (with_graph_length mode (merged mode vs ws) (each_once (vs ++ ws)) (Col (length vs)))

  anti_kinds : (n m : ℕ) (p q : Plan) (c : Expr) → HasTermKinds schema n p → HasTermKinds schema m q → IsTruth (replicate (n + m) kind.Term) c → HasTermKinds schema n (AntiJoin p q c)
  anti_kinds n m p q c h k t =
      (λ i. first_checked c (h i) (k i))
      ∙ ap (λ l. option_and_then (λ (ks : Kinds). Some (replicate n kind.Term)) (checked c (Some l))) (replicate-append-replicate n m kind.Term)
      ∙ ap (option_and_then (λ (ks : Kinds). Some (replicate n kind.Term))) (checked_truth c (replicate (n + m) kind.Term) t)

  minus_plan_kinds : (mode : Mode) (vs ws : List ℕ) (p q : Plan) → HasTermKinds schema (columns_in mode vs) p → HasTermKinds schema (columns_in mode ws) q → HasTermKinds schema (columns_in mode vs) (minus_plan mode vs ws p q)
  minus_plan_kinds mode vs ws p q h k = by (list_any (has ws) vs)
    where
      c : Expr
      c = and_of (overlap mode vs ws)

      by : (b : Bool) → HasTermKinds schema (columns_in mode vs) (if b then AntiJoin p q c else p)
      by true = anti_kinds (columns_in mode vs) (columns_in mode ws) p q c h k (and_truth (replicate (both mode vs ws) kind.Term) (overlap mode vs ws) (overlap_truth mode vs ws))
      by false = h

  value_kind : (o : Option Term) → IsTerm [] (value_const o)
  value_kind None = refl
  value_kind (Some t) = refl

  row_plan_kinds : (vs : List ℕ) (row : List (Option Term)) → HasTermKinds schema (length (each_once vs)) (row_plan vs row)
  row_plan_kinds vs row =
      project_kinds schema (map value (each_once vs)) Unit [] refl (map_each (IsTerm []) value (each_once vs) (λ v c. value_kind (row_term vs row v)))
      ∙ ap (λ n. Some (replicate n kind.Term)) (length-map (each_once vs) value)
    where
      value : ℕ → Expr
      value v = value_const (row_term vs row v)

  table_plan_kinds : (vs : List ℕ) (rows : List (List (Option Term))) → HasTermKinds schema (length (each_once vs)) (table_plan vs rows)
  table_plan_kinds vs [] = refl
  table_plan_kinds vs (row ∷ rows) =
      union_kinds schema (length (each_once vs)) (row_plan vs row) (map (row_plan vs) rows)
      (map_each (HasTermKinds schema (length (each_once vs))) (row_plan vs) (row ∷ rows) (λ r c. row_plan_kinds vs r))

  visible_term : (n : ℕ) (vs : List ℕ) (v : ℕ) → length vs ≤ n → IsTerm (replicate n kind.Term) (visible_column vs v)
  visible_term n vs v m = by (has vs v) refl
    where
      by : (b : Bool) → has vs v ≡ b → IsTerm (replicate n kind.Term) (if b then left_column vs v else null_term)
      by true h = let k = has_place vs v h in term_at n (position_or_len (nat_eq v) vs) (omega (arith, k, m))
      by false h = refl

  graph_term : (mode : Mode) (vs : List ℕ) → AllByRecursion (IsTerm (replicate (columns_in mode vs) kind.Term)) (if_each mode (Col (length vs)))
  graph_term Default vs = tt
  graph_term (InGraph i) vs = tt
  graph_term Each vs = (term_at (suc (length vs)) (length vs) (omega arith), tt)

  union_member_kinds : (mode : Mode) (all vs : List ℕ) (p : Plan) → HasTermKinds schema (columns_in mode vs) p → HasTermKinds schema (columns_in mode all) (union_member mode all vs p)
  union_member_kinds mode all vs p h =
      let ks = replicate (columns_in mode vs) kind.Term in
      project_kinds schema (map (visible_column vs) all ++ if_each mode (Col (length vs))) p ks h
      (recursion_append (IsTerm ks) (map (visible_column vs) all) (if_each mode (Col (length vs))) (map_each (IsTerm ks) (visible_column vs) all (λ v c. visible_term (columns_in mode vs) vs v (columns_most mode vs))) (graph_term mode vs))
      ∙ ap (λ n. Some (replicate n kind.Term)) (with_graph_length mode (visible_column vs) all (Col (length vs)))

  union_plan_kinds : (mode : Mode) (vs ws : List ℕ) (p q : Plan) → HasTermKinds schema (columns_in mode vs) p → HasTermKinds schema (columns_in mode ws) q → HasTermKinds schema (columns_in mode (each_once (vs ++ ws))) (union_plan mode vs ws p q)
  union_plan_kinds mode vs ws p q h k =
      let all = each_once (vs ++ ws) in
      union_kinds schema (columns_in mode all) (union_member mode all vs p) (union_member mode all ws q ∷ []) (union_member_kinds mode all vs p h, (union_member_kinds mode all ws q k, tt))

  extend_plan_kinds : (mode : Mode) (vs : List ℕ) (v : ℕ) (c : Condition) (p : Plan) → HasTermKinds schema (columns_in mode vs) p → HasTermKinds schema (columns_in mode (each_once (vs ++ v ∷ []))) (extend_plan mode vs v c p)
  extend_plan_kinds mode vs v c p h =
      project_kinds schema (map (extend_column vs v c) all ++ if_each mode (Col (length vs))) p ks h
      (recursion_append (IsTerm ks) (map (extend_column vs v c) all) (if_each mode (Col (length vs))) (map_each (IsTerm ks) (extend_column vs v c) all (λ w k. extend_term w (nat_eq v w))) (graph_term mode vs))
      ∙ ap (λ n. Some (replicate n kind.Term)) (with_graph_length mode (extend_column vs v c) all (Col (length vs)))
    where
      all : List ℕ
      all = each_once (vs ++ v ∷ [])

      ks : Kinds
      ks = replicate (columns_in mode vs) kind.Term

      variable_is : (w : ℕ) → IsTerm ks (visible_column vs w)
      variable_is w = visible_term (columns_in mode vs) vs w (columns_most mode vs)

      extend_term : (w : ℕ) (b : Bool) → IsTerm ks (if b then value_expr (visible_column vs) c else visible_column vs w)
      extend_term w true = value_term ks (visible_column vs) variable_is c
      extend_term w false = variable_is w

  select_kinds : (n : ℕ) (p : Plan) (c : Expr) → HasTermKinds schema n p → IsTruth (replicate n kind.Term) c → HasTermKinds schema n (Select c p)
  select_kinds n p c h t = ap (checked c) h ∙ checked_truth c (replicate n kind.Term) t

  -- ---- GRAPH

  column_term : (n : ℕ) (vs : List ℕ) (v : ℕ) → Contains vs v → IsTerm (replicate (n + length vs) kind.Term) (column vs n v)
  column_term n vs v c = let k = has_place vs v ((is_member-Decides nat_test.decides vs v).1 c) in term_at (n + length vs) (n + position_or_len (nat_eq v) vs) (omega (arith, k))

  after_test_kinds : (first : Plan) (vs : List ℕ) (p : Plan) → HasTermKinds schema 0 first → HasTermKinds schema (length vs) p → HasTermKinds schema (length vs) (after first vs 0 p)
  after_test_kinds first vs p h k =
      project_kinds schema (map (column vs 0) vs ++ []) (Join (plans (first ∷ p ∷ [])) (truth_const true)) (replicate (0 + length vs) kind.Term) (pair_kinds 0 (length vs) first p (truth_const true) h k refl)
      (recursion_append (IsTerm (replicate (0 + length vs) kind.Term)) (map (column vs 0) vs) [] (map_each (IsTerm (replicate (0 + length vs) kind.Term)) (column vs 0) vs (column_term 0 vs)) tt)
      ∙ ap (λ n. Some (replicate n kind.Term)) (ap length (append-nil (map (column vs 0) vs)) ∙ length-map vs (column vs 0))

  after_names_kinds : (first : Plan) (vs : List ℕ) (p : Plan) → HasTermKinds schema 1 first → HasTermKinds schema (length vs) p → HasTermKinds schema (suc (length vs)) (after first vs 1 p)
  after_names_kinds first vs p h k =
      project_kinds schema (map (column vs 1) vs ++ Col 0 ∷ []) (Join (plans (first ∷ p ∷ [])) (truth_const true)) (replicate (1 + length vs) kind.Term) (pair_kinds 1 (length vs) first p (truth_const true) h k refl)
      (recursion_append (IsTerm (replicate (1 + length vs) kind.Term)) (map (column vs 1) vs) (Col 0 ∷ []) (map_each (IsTerm (replicate (1 + length vs) kind.Term)) (column vs 1) vs (column_term 1 vs)) (term_at (1 + length vs) 0 (omega arith), tt))
      ∙ ap (λ n. Some (replicate n kind.Term)) (with_graph_length Each (column vs 1) vs (Col 0))

  its_graph_kinds : (vs : List ℕ) (v : ℕ) (p : Plan) → HasTermKinds schema (suc (length vs)) p → HasTermKinds schema (suc (length vs)) (in_its_graph vs v p)
  its_graph_kinds vs v p h = by (has vs v) refl
    where
      n : ℕ
      n = suc (length vs)

      ks : Kinds
      ks = replicate n kind.Term

      c : Expr
      c = or_of (IsNull (left_column vs v) ∷ Same (left_column vs v) (Col (length vs)) ∷ [])

      by : (b : Bool) → has vs v ≡ b → HasTermKinds schema n (if b then Select c p else p)
      by true e =
          let k = has_place vs v e in
          let l = term_at n (position_or_len (nat_eq v) vs) (omega (arith, k)) in
          select_kinds n p c h (or_truth ks (IsNull (left_column vs v) ∷ Same (left_column vs v) (Col (length vs)) ∷ []) (null_truth ks (left_column vs v) l, (same_truth ks (left_column vs v) (Col (length vs)) l (term_at n (length vs) (omega arith)), tt)))
      by false e = h

  graph_column_term : (vs : List ℕ) (v w : ℕ) → Contains (each_once (v ∷ vs)) w → IsTerm (replicate (suc (length vs)) kind.Term) (graph_column vs v w)
  graph_column_term vs v w c = by (nat_eq v w) refl
    where
      by : (b : Bool) → nat_eq v w ≡ b → IsTerm (replicate (suc (length vs)) kind.Term) (if b then Col (length vs) else left_column vs w)
      by true e = term_at (suc (length vs)) (length vs) (omega arith)
      by false e =
          let there : Contains vs w = ⊎_elim (λ k. absurd (true≢false (sym ((nat_test.decides v w).1 k) ∙ e))) (λ k. k) (Contains-cons_cases v vs w (Contains-from_distinct nat_eq (v ∷ vs) w c)) in
          let k = has_place vs w ((is_member-Decides nat_test.decides vs w).1 there) in
          term_at (suc (length vs)) (position_or_len (nat_eq w) vs) (omega (arith, k))

  each_graph_kinds : (vs : List ℕ) (v : ℕ) (p : Plan) → HasTermKinds schema (suc (length vs)) p → HasTermKinds schema (length (each_once (v ∷ vs))) (each_graph vs v p)
  each_graph_kinds vs v p h =
      let ks = replicate (suc (length vs)) kind.Term in
      project_kinds schema (map (graph_column vs v) (each_once (v ∷ vs))) (in_its_graph vs v p) ks (its_graph_kinds vs v p h)
      (map_each (IsTerm ks) (graph_column vs v) (each_once (v ∷ vs)) (graph_column_term vs v))
      ∙ ap (λ n. Some (replicate n kind.Term)) (length-map (each_once (v ∷ vs)) (graph_column vs v))

module _ (schema : Tables) (rules : List RowRule) (fit : AreFitting schema rules) where
  in_mode_kinds : (mode : Mode) (vs : List ℕ) (p : Plan) → HasTermKinds schema (length vs) p → HasTermKinds schema (columns_in mode vs) (in_mode schema rules mode vs p)
  in_mode_kinds Default vs p h = h
  in_mode_kinds (InGraph i) vs p h = h
  in_mode_kinds Each vs p h = after_names_kinds schema (names_plan schema rules) vs p (names_plan_kinds schema rules fit) h

  named_graph_kinds : (a : Algebra) (i : List ℕ) (p : Plan) → HasTermKinds schema (length (visible a)) p → HasTermKinds schema (length (visible a)) (named_graph schema rules a i p)
  named_graph_kinds a i p h = by (is_pattern a)
    where
      by : (b : Bool) → HasTermKinds schema (length (visible a)) (if b then p else after (exists_plan schema rules i) (visible a) 0 p)
      by true = h
      by false = after_test_kinds schema (exists_plan schema rules i) (visible a) p (exists_plan_kinds schema rules fit i) h

  pub unfolded_kinds : HasTermColumns schema rules
  unfolded_kinds (Bgp ps) mode = bgp_kinds schema rules fit ps mode
  unfolded_kinds (algebra.Join a b) mode = join_plan_kinds schema mode (visible a) (visible b) (unfolded schema rules a mode) (unfolded schema rules b mode) (unfolded_kinds a mode) (unfolded_kinds b mode)
  unfolded_kinds (LeftJoin a b c) mode = left_plan_kinds schema mode (visible a) (visible b) c (unfolded schema rules a mode) (unfolded schema rules b mode) (unfolded_kinds a mode) (unfolded_kinds b mode)
  unfolded_kinds (algebra.Union a b) mode = union_plan_kinds schema mode (visible a) (visible b) (unfolded schema rules a mode) (unfolded schema rules b mode) (unfolded_kinds a mode) (unfolded_kinds b mode)
  unfolded_kinds (Filter c a) mode =
      select_kinds schema (columns_in mode (visible a)) (unfolded schema rules a mode) (truth_expr (visible_column (visible a)) c) (unfolded_kinds a mode)
      (filter_truth (replicate (columns_in mode (visible a)) kind.Term) (visible_column (visible a)) (λ v. visible_term schema (columns_in mode (visible a)) (visible a) v (columns_most mode (visible a))) c)
  unfolded_kinds (Minus a b) mode = minus_plan_kinds schema mode (visible a) (visible b) (unfolded schema rules a mode) (unfolded schema rules b mode) (unfolded_kinds a mode) (unfolded_kinds b mode)
  unfolded_kinds (Table vs rows) mode = in_mode_kinds mode (each_once vs) (table_plan vs rows) (table_plan_kinds schema vs rows)
  unfolded_kinds (Extend a v c) mode = extend_plan_kinds schema mode (visible a) v c (unfolded schema rules a mode) (unfolded_kinds a mode)
  unfolded_kinds (Graph (name.Named i) a) mode =
      subst (λ vs. HasTermKinds schema (columns_in mode vs) (in_mode schema rules mode (visible a) (named_graph schema rules a i (unfolded schema rules a (InGraph i))))) (sym (visible_once a))
      (in_mode_kinds mode (visible a) (named_graph schema rules a i (unfolded schema rules a (InGraph i))) (named_graph_kinds a i (unfolded schema rules a (InGraph i)) (unfolded_kinds a (InGraph i))))
  unfolded_kinds (Graph (name.Each v) a) mode =
      in_mode_kinds mode (each_once (v ∷ visible a)) (each_graph (visible a) v (unfolded schema rules a Each)) (each_graph_kinds schema (visible a) v (unfolded schema rules a Each) (unfolded_kinds a Each))

  pub start_plan_kinds : HasAnswerColumns schema rules
  start_plan_kinds query = by query.distinct
    where
      vs : List ℕ
      vs = visible (algebra_of query)

      ks : Kinds
      ks = replicate (length vs) kind.Term

      p : Plan
      p = Project (answer_columns query) (unfolded schema rules (algebra_of query) Default)

      variable_is : (v : ℕ) → IsTerm ks (visible_column vs v)
      variable_is v = visible_term schema (length vs) vs v (omega arith)

      kinds : HasTermKinds schema (answer_width query) p
      kinds =
          project_kinds schema (answer_columns query) (unfolded schema rules (algebra_of query) Default) ks (unfolded_kinds (algebra_of query) Default)
          (recursion_append (IsTerm ks) (map (visible_column vs) (selected_variables query)) (map (key_column vs) query.keys)
          (map_each (IsTerm ks) (visible_column vs) (selected_variables query) (λ v c. variable_is v))
          (map_each (IsTerm ks) (key_column vs) query.keys (λ k c. value_term ks (visible_column vs) variable_is k.condition)))
          ∙ ap (λ n. Some (replicate n kind.Term)) (length-append (map (visible_column vs) (selected_variables query)) (map (key_column vs) query.keys)
          ∙ (λ i. length-map (selected_variables query) (visible_column vs) i + length-map query.keys (key_column vs) i))

      by : (b : Bool) → HasTermKinds schema (answer_width query) (if b then Distinct p else p)
      by true = kinds
      by false = kinds
