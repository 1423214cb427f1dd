-- Each node's rows stand for the solutions of its algebra, if those of its parts do.
use Rattle.std.proofs.Common.{◌≡◌, ℕ, ◌<◌, Bool, true, false, ⊎_elim, List, [], ◌∷◌, ◌++◌, map, length, refl, sym, ap, subst, ◌∙◌, arith, true≢false, append-nil}
use Rattle.std.specs.Prelude.{Option, Some, None, not, ◌&&◌, ◌||◌, replicate, filter, Contains, ⊤}
use Rattle.std.specs.List.{list_all, AllByRecursion as Every, range_with_len}
use Rattle.std.specs.Option.{option_or}
use Rattle.std.specs.List.Sorted.{IsPermutation}
use Rattle.std.proofs.lemmas.List.Elements.{Contains-append_cases}
use Rattle.std.proofs.Math.Bool.{and-true}
use Rattle.std.proofs.lemmas.List.Sorted.{IsPermutation-append, IsPermutation-trans}
use Rattle.vkg_lists.proofs.Bags.{bag_same, bag_filter, bag_filter_agree, IsPermutation-induction}
use Rattle.vkg_lists.proofs.Onto.{or_none}
use Rattle.vkg_lists.proofs.Walks.{filter-map, filter-filter, map-map}
use Rattle.vkg_lists.proofs.Members.{Contains-from_map, Contains-from_filter, Contains-from_flat_map, recursion_from_each}
use Rattle.vkg_terms.specs.declared.term.Term.{Term}
use Rattle.vkg_cells.specs.declared.cell.Cell.{Cell}
use Rattle.vkg_cells.specs.declared.cell.Cell.TheVariants as cell
use Rattle.vkg_schema.specs.Rows.{Database, Row, cell_at, is_known_true}
use Rattle.vkg_schema.proofs.RowCells.{cell_at-left}
use Rattle.vkg_sparql.specs.Query.{Condition}
use Rattle.vkg_algebra.specs.Solutions.{Solution, compatible, merge, join, left_join, lookup}
use Rattle.vkg_algebra.specs.Values.{expression_value}
use Rattle.vkg_algebra.specs.Evaluation.{Dataset, graph_names}
use Rattle.vkg_algebra.specs.Visible.{each_once, has}
use Rattle.vkg_algebra.specs.Values as algebra
use Rattle.vkg_expr.specs.Expr.{Expr, Col}
use Rattle.vkg_expr.specs.Value.{value_of, term_cell, holds}
use Rattle.vkg_expr.specs.Logic.{and_of}
use Rattle.vkg_expr.proofs.Conjuncts.{values_are}
use Rattle.vkg_plan.specs.Kinds.{Tables}
use Rattle.vkg_plan.specs.Plan.{Plan, Project}
use Rattle.vkg_plan.specs.Rows.{is_alone, pairs, product, left_pairs, rows_of}
use Rattle.vkg_plan.proofs.Pairs.{pairs-unit}
use Rattle.vkg_unfolded.specs.Conditions.{truth_expr, expr_of, gives_truth, condition_of}
use Rattle.vkg_unfolded.specs.declared.mode.Mode.{Mode}
use Rattle.vkg_unfolded.specs.declared.mode.Mode.TheVariants.{Default, InGraph, Each}
use Rattle.vkg_unfolded.specs.Unfolded.{merged, agreement, if_each, visible_column}
use Rattle.vkg_unfolded.specs.StandsFor.{IsIn, belongs, term_in, solution_of, solutions_of}
use Rattle.vkg_unfolded.specs.FineRows.{IsNarrow}
use Rattle.vkg_answers.proofs.Joins.{bag_join, join_rows, left_rows, merge-map}
use Rattle.vkg_answers.proofs.Values.{IsNarrowCondition, IsNarrowIfAny, means, truth_meant}
use Rattle.vkg_answers.proofs.Reading.{AreBelow, AreTermCells, IsTermCell, read_typed, has_union, term_merged, read_merged, solution-merged, merged_typed, nulls_typed, nulls_none, lookup-solution, cells-map, cells-cons, cells-nil, length-project, narrow_or}
use Rattle.vkg_answers.proofs.Agreement.{agreements, agreements-compatible}
use Rattle.vkg_answers.proofs.Splits.{pairs_split, left_split}
use Rattle.vkg_answers.proofs.Modes.{IsRowOf, size_enough, project_merged, cell_at-after, joined, passing, in_graph, join_split, join_near, join_kept}

-- rows over some variables in a mode, and in each of its graphs these solutions
pub record Stands (n : ℕ) (d : Dataset) (mode : Mode) (vs : List ℕ) (rows : List Row) (answers : Option Term → List Solution) : Type 0 where
  pub are_rows : (row : Row) → Contains rows row → IsRowOf d mode vs row
  pub bag : (g : Option Term) → IsIn d mode g → IsPermutation (solutions_of n vs (filter (belongs mode (length vs) g) rows)) (answers g)

-- ---- bags of joins

pub list_all-permutation : {A : Type 0} (p : A → Bool) {xs ys : List A} → IsPermutation xs ys → list_all p xs ≡ list_all p ys
list_all-permutation {A} p = IsPermutation-induction (λ xs ys. list_all p xs ≡ list_all p ys) refl (λ x xs ys h. ap (λ b. p x && b) h) (λ x y xs. turned (p x) (p y) (list_all p xs)) (λ xs ys zs h k. h ∙ k)
  where
    turned : (a b c : Bool) → (a && (b && c)) ≡ (b && (a && c))
    turned true true c = refl
    turned true false c = refl
    turned false true c = refl
    turned false false c = refl

bag_left_join : (hold : Solution → Bool) {ls ms rs ss : List Solution} → IsPermutation ls ms → IsPermutation rs ss → IsPermutation (left_join hold ls rs) (left_join hold ms ss)
bag_left_join hold b c = IsPermutation-append _ _ _ _ (bag_filter hold (bag_join b c)) (bag_filter_agree (λ l. list_all-permutation (λ r. not (compatible l r && hold (merge l r))) c) b)

-- ---- rows of a Project

-- a hidden value
abbrev pub IsGraphCell : Dataset → Mode → Cell → Type 0
IsGraphCell d Each c = IsTermCell c × ((i : Term) × Contains (graph_names d) i × (c ≡ cell.Term i))
IsGraphCell d mode c = ⊤

pub projected : (d : Dataset) (mode : Mode) (f : ℕ → Expr) (vs : List ℕ) (e : Expr) (row : Row) → ((v : ℕ) → IsTermCell (value_of (f v) row)) → IsGraphCell d mode (value_of e row) →
    IsRowOf d mode vs (map (λ x. value_of x row) (map f vs ++ if_each mode e))
projected d Default f vs e row h k = record { size = omega (arith, length-project f vs [] row); cells = cells-map f vs [] row h cells-nil; graph = tt }
projected d (InGraph i) f vs e row h k = record { size = omega (arith, length-project f vs [] row); cells = cells-map f vs [] row h cells-nil; graph = tt }
projected d Each f vs e row h k = record {
  size = omega (arith, length-project f vs (e ∷ []) row);
  cells = cells-map f vs (e ∷ []) row h (cells-cons (value_of e row) [] k.0 cells-nil);
  graph = (k.1.0, k.1.1, cell_at-after f vs e row ∙ k.1.2);
}

pub graph_cell : (d : Dataset) (mode : Mode) (vs : List ℕ) (row : Row) → IsRowOf d mode vs row → IsGraphCell d mode (cell_at row (length vs))
graph_cell d Default vs row h = tt
graph_cell d (InGraph i) vs row h = tt
graph_cell d Each vs row h = (h.cells (length vs), h.graph)

-- ---- two sides

module _ (n : ℕ) (d : Dataset) (mode : Mode) (vs ws : List ℕ) where
  -- the row of merged columns of a joined row
  pub merged_row : (l r : Row) → IsRowOf d mode vs l → AreTermCells r → IsRowOf d mode (each_once (vs ++ ws)) (project_merged mode vs ws (l ++ r))
  merged_row l r p q = projected d mode (merged mode vs ws) (each_once (vs ++ ws)) (Col (length vs)) (l ++ r)
      (merged_typed mode vs ws l r p.size (size_enough d mode vs l p) p.cells q) (graph_of mode p)
    where
      graph_of : (mode : Mode) → IsRowOf d mode vs l → IsGraphCell d mode (cell_at (l ++ r) (length vs))
      graph_of Default p = tt
      graph_of (InGraph i) p = tt
      graph_of Each p = subst (IsGraphCell d Each) (sym (cell_at-left l r (length vs) (omega (arith, p.size)))) (graph_cell d Each vs l p)

  pub merged_solution : (l r : Row) → IsRowOf d mode vs l → AreTermCells r → solution_of n (each_once (vs ++ ws)) (project_merged mode vs ws (l ++ r)) ≡ merge (solution_of n vs l) (solution_of n ws r)
  merged_solution l r p q = solution-merged n mode vs ws l r p.size (size_enough d mode vs l p) p.cells q (if_each mode (Col (length vs)))

  pub merged_padded : (m : ℕ) (l : Row) → IsRowOf d mode vs l → solution_of n (each_once (vs ++ ws)) (project_merged mode vs ws (l ++ replicate m cell.Null)) ≡ solution_of n vs l
  merged_padded m l p =
      merged_solution l (replicate m cell.Null) p (nulls_typed m)
      ∙ merge-map (term_in (visible_column vs) l) (term_in (visible_column ws) (replicate m cell.Null)) (range_with_len 0 n)
      ∙ (λ i. map (λ v. (ap (option_or (term_in (visible_column vs) l v)) (nulls_none m ws v) ∙ or_none (term_in (visible_column vs) l v)) i) (range_with_len 0 n))

  module _ (below : AreBelow n vs) where
    pub vars_compatible : (l r : Row) → IsRowOf d mode vs l → IsRowOf d mode ws r → list_all (λ c. holds c (l ++ r)) (agreements mode vs ws) ≡ compatible (solution_of n vs l) (solution_of n ws r)
    vars_compatible l r p q = agreements-compatible n mode vs ws l r below p.size (size_enough d mode vs l p) p.cells q.cells

pub product-two : (ls rs : List Row) → product (ls ∷ rs ∷ []) ≡ pairs ls rs
product-two ls rs = ap (pairs ls) (pairs-unit rs)

pub project_rows : (schema : Tables) (db : Database) (es : List Expr) (p : Plan) → rows_of schema (Project es p) db ≡ map (λ row. map (λ e. value_of e row) es) (rows_of schema p db)
project_rows schema db es p = λ i. map (λ row. values_are es row i) (rows_of schema p db)

-- a filter's condition over a row is that over a solution with its terms
pub truth_alike : (at : ℕ → Expr) (row : Row) (s : Solution) (c : Condition) → IsNarrowCondition c → ((v : ℕ) → value_of (at v) row ≡ term_cell (lookup s v)) → ((v : ℕ) → IsNarrow (lookup s v)) →
    holds (truth_expr at c) row ≡ algebra.holds c s
truth_alike at row s c h binds narrow =
    ap is_known_true (truth_meant (gives_truth c) (expr_of at c) row (expression_value c s) (means at row s binds narrow c h))

pub below_union : (n : ℕ) (vs ws : List ℕ) → AreBelow n vs → AreBelow n ws → AreBelow n (each_once (vs ++ ws))
below_union n vs ws h k v e = of (has vs v) refl (has ws v) refl (sym (has_union vs ws v) ∙ e)
  where
    of : (a : Bool) → has vs v ≡ a → (b : Bool) → has ws v ≡ b → (a || b) ≡ true → v < n
    of true f b g x = h v f
    of false f true g x = k v g
    of false f false g x = absurd (true≢false (sym x))

module _ (n : ℕ) (d : Dataset) (mode : Mode) (vs ws : List ℕ) (below : AreBelow n vs) (within : AreBelow n ws) (ls rs : List Row) (A B : Option Term → List Solution)
    (a : Stands n d mode vs ls A) (b : Stands n d mode ws rs B) where
  here : Option Term → List Row
  here g = filter (belongs mode (length vs) g) ls

  there : Option Term → List Row
  there g = filter (belongs mode (length ws) g) rs

  every_here : (g : Option Term) → Every (IsRowOf d mode vs) (here g)
  unfolding here
  every_here g = recursion_from_each _ (filter (belongs mode (length vs) g) ls) (λ row c. a.are_rows row (Contains-from_filter (belongs mode (length vs) g) ls row c).0)

  every_there : (g : Option Term) → Every (IsRowOf d mode ws) (there g)
  unfolding there
  every_there g = recursion_from_each _ (filter (belongs mode (length ws) g) rs) (λ row c. b.are_rows row (Contains-from_filter (belongs mode (length ws) g) rs row c).0)

  every_left : Every (IsRowOf d mode vs) ls
  every_left = recursion_from_each _ ls a.are_rows

  every_right : Every (IsRowOf d mode ws) rs
  every_right = recursion_from_each _ rs b.are_rows

  -- a filter of the projected rows is one of the joined rows
  solutions_projected : (g : Option Term) (X : List Row) →
      solutions_of n (each_once (vs ++ ws)) (filter (belongs mode (length (each_once (vs ++ ws))) g) (map (project_merged mode vs ws) X))
      ≡ map (λ row. solution_of n (each_once (vs ++ ws)) (project_merged mode vs ws row)) (filter (in_graph d vs ws [] mode g) X)
  solutions_projected g X =
      ap (map (solution_of n (each_once (vs ++ ws)))) (filter-map (belongs mode (length (each_once (vs ++ ws))) g) (project_merged mode vs ws) X)
      ∙ map-map (solution_of n (each_once (vs ++ ws))) (project_merged mode vs ws) (filter (in_graph d vs ws [] mode g) X)

  -- JOIN
  pub join_stands : Stands n d mode (each_once (vs ++ ws)) (map (project_merged mode vs ws) (filter (holds (and_of (agreement mode vs ws))) (product (ls ∷ rs ∷ [])))) (λ g. join (A g) (B g))
  unfolding here there
  join_stands = Prim.rw (product-two ls rs, ← append-nil (agreement mode vs ws)) (record { are_rows = rows_fine; bag = λ g h. IsPermutation-trans _ _ _ (bag_same (equal g h)) (bag_join (a.bag g h) (b.bag g h)) })
    where
      rows_fine : (row : Row) → Contains (map (project_merged mode vs ws) (filter (joined d vs ws [] mode) (pairs ls rs))) row → IsRowOf d mode (each_once (vs ++ ws)) row
      rows_fine row c =
          let x = Contains-from_map (project_merged mode vs ws) (filter (joined d vs ws [] mode) (pairs ls rs)) row c in
          let y = Contains-from_flat_map (λ l. map (λ r. l ++ r) rs) ls x.0 (Contains-from_filter (joined d vs ws [] mode) (pairs ls rs) x.0 x.1).0 in
          let z = Contains-from_map (λ r. y.0 ++ r) rs x.0 y.2 in
          subst (IsRowOf d mode (each_once (vs ++ ws))) (ap (project_merged mode vs ws) z.2 ∙ x.2) (merged_row n d mode vs ws y.0 z.0 (a.are_rows y.0 y.1) (b.are_rows z.0 z.1).cells)

      equal : (g : Option Term) → IsIn d mode g →
          solutions_of n (each_once (vs ++ ws)) (filter (belongs mode (length (each_once (vs ++ ws))) g) (map (project_merged mode vs ws) (filter (joined d vs ws [] mode) (pairs ls rs))))
          ≡ join (solutions_of n vs (here g)) (solutions_of n ws (there g))
      equal g h =
          solutions_projected g (filter (joined d vs ws [] mode) (pairs ls rs))
          ∙ ap (map (λ row. solution_of n (each_once (vs ++ ws)) (project_merged mode vs ws row)))
          (filter-filter (in_graph d vs ws [] mode g) (joined d vs ws [] mode) (pairs ls rs)
          ∙ pairs_split (IsRowOf d mode vs) (IsRowOf d mode ws) (belongs mode (length vs) g) (belongs mode (length ws) g) (passing d vs ws [] mode) (joined d vs ws [] mode) (in_graph d vs ws [] mode g)
          (λ l r p q. join_split d vs ws [] mode g h l r p q) ls rs every_left every_right)
          ∙ join_rows (IsRowOf d mode vs) (IsRowOf d mode ws) (solution_of n vs) (solution_of n ws) (λ row. solution_of n (each_once (vs ++ ws)) (project_merged mode vs ws row)) (passing d vs ws [] mode)
          (λ l r p q. and-true (list_all (λ c. holds c (l ++ r)) (agreements mode vs ws)) ∙ vars_compatible n d mode vs ws below l r p q)
          (λ l r p q. merged_solution n d mode vs ws l r p q.cells) (here g) (there g) (every_here g) (every_there g)

  -- LEFT
  test_alike : (c : Condition) → IsNarrowCondition c → (l r : Row) → IsRowOf d mode vs l → IsRowOf d mode ws r → holds (truth_expr (merged mode vs ws) c) (l ++ r) ≡ algebra.holds c (merge (solution_of n vs l) (solution_of n ws r))
  test_alike c lawful l r p q = truth_alike (merged mode vs ws) (l ++ r) (merge (solution_of n vs l) (solution_of n ws r)) c lawful binds narrow
    where
      term : (v : ℕ) → lookup (merge (solution_of n vs l) (solution_of n ws r)) v ≡ option_or (term_in (visible_column vs) l v) (term_in (visible_column ws) r v)
      term v =
          ap (λ s. lookup s v) (sym (merged_solution n d mode vs ws l r p q.cells))
          ∙ lookup-solution n (each_once (vs ++ ws)) (project_merged mode vs ws (l ++ r)) v (below_union n vs ws below within)
          ∙ term_merged mode vs ws l r p.size (size_enough d mode vs l p) p.cells q.cells (if_each mode (Col (length vs))) v

      binds : (v : ℕ) → value_of (merged mode vs ws v) (l ++ r) ≡ term_cell (lookup (merge (solution_of n vs l) (solution_of n ws r)) v)
      binds v = read_merged mode vs ws l r p.size (size_enough d mode vs l p) p.cells q.cells v ∙ ap term_cell (sym (term v))

      narrow : (v : ℕ) → IsNarrow (lookup (merge (solution_of n vs l) (solution_of n ws r)) v)
      narrow v = subst IsNarrow (sym (term v)) (narrow_or (term_in (visible_column vs) l v) (term_in (visible_column ws) r v) (read_typed vs l p.cells v).1 (read_typed ws r q.cells v).1)

  -- the condition may be left out
  rest_alike : (c : Option Condition) → IsNarrowIfAny c → (l r : Row) → IsRowOf d mode vs l → IsRowOf d mode ws r →
      list_all (λ e. holds e (l ++ r)) (condition_of (merged mode vs ws) c) ≡ algebra.holds_if_any c (merge (solution_of n vs l) (solution_of n ws r))
  rest_alike None lawful l r p q = refl
  rest_alike (Some c) lawful l r p q = and-true (holds (truth_expr (merged mode vs ws) c) (l ++ r)) ∙ test_alike c lawful l r p q

  module _ (c : Option Condition) (lawful : IsNarrowIfAny c) (m : ℕ) where
    pub left_stands : Stands n d mode (each_once (vs ++ ws))
        (map (project_merged mode vs ws) (left_pairs (holds (and_of (agreement mode vs ws ++ condition_of (merged mode vs ws) c))) m ls rs)) (λ g. left_join (algebra.holds_if_any c) (A g) (B g))
    unfolding here there
    left_stands = record { are_rows = rows_fine; bag = λ g h. IsPermutation-trans _ _ _ (bag_same (equal g h)) (bag_left_join (algebra.holds_if_any c) (a.bag g h) (b.bag g h)) }
      where
        cs : List Expr
        cs = condition_of (merged mode vs ws) c

        rows_fine : (row : Row) → Contains (map (project_merged mode vs ws) (left_pairs (joined d vs ws cs mode) m ls rs)) row → IsRowOf d mode (each_once (vs ++ ws)) row
        rows_fine row k =
            let x = Contains-from_map (project_merged mode vs ws) (left_pairs (joined d vs ws cs mode) m ls rs) row k in
            ⊎_elim
            (λ f.
            let y = Contains-from_flat_map (λ l. map (λ r. l ++ r) rs) ls x.0 (Contains-from_filter (joined d vs ws cs mode) (pairs ls rs) x.0 f).0 in
            let z = Contains-from_map (λ r. y.0 ++ r) rs x.0 y.2 in
            subst (IsRowOf d mode (each_once (vs ++ ws))) (ap (project_merged mode vs ws) z.2 ∙ x.2) (merged_row n d mode vs ws y.0 z.0 (a.are_rows y.0 y.1) (b.are_rows z.0 z.1).cells))
            (λ f.
            let y = Contains-from_map (λ l. l ++ replicate m cell.Null) (filter lonely ls) x.0 f in
            subst (IsRowOf d mode (each_once (vs ++ ws))) (ap (project_merged mode vs ws) y.2 ∙ x.2) (merged_row n d mode vs ws y.0 (replicate m cell.Null) (a.are_rows y.0 (Contains-from_filter lonely ls y.0 y.1).0) (nulls_typed m)))
            (Contains-append_cases (filter (joined d vs ws cs mode) (pairs ls rs)) (map (λ l. l ++ replicate m cell.Null) (filter lonely ls)) x.0 x.1)
          where
            lonely : Row → Bool
            lonely l = is_alone (joined d vs ws cs mode) rs l

        passes : (l r : Row) → IsRowOf d mode vs l → IsRowOf d mode ws r → passing d vs ws cs mode (l ++ r) ≡ (compatible (solution_of n vs l) (solution_of n ws r) && algebra.holds_if_any c (merge (solution_of n vs l) (solution_of n ws r)))
        passes l r p q = λ i. vars_compatible n d mode vs ws below l r p q i && rest_alike c lawful l r p q i

        equal : (g : Option Term) → IsIn d mode g →
            solutions_of n (each_once (vs ++ ws)) (filter (belongs mode (length (each_once (vs ++ ws))) g) (map (project_merged mode vs ws) (left_pairs (joined d vs ws cs mode) m ls rs)))
            ≡ left_join (algebra.holds_if_any c) (solutions_of n vs (here g)) (solutions_of n ws (there g))
        equal g h =
            solutions_projected g (left_pairs (joined d vs ws cs mode) m ls rs)
            ∙ ap (map (λ row. solution_of n (each_once (vs ++ ws)) (project_merged mode vs ws row)))
            (left_split (IsRowOf d mode vs) (IsRowOf d mode ws) (belongs mode (length vs) g) (belongs mode (length ws) g) (passing d vs ws cs mode) (joined d vs ws cs mode)
            (λ l r p q e. join_near d vs ws cs mode g h l r p q e) (in_graph d vs ws cs mode g) m (λ l p. join_kept d vs ws cs mode g h m l p)
            (λ l r p q. join_split d vs ws cs mode g h l r p q) ls rs every_left every_right)
            ∙ left_rows (IsRowOf d mode vs) (IsRowOf d mode ws) (solution_of n vs) (solution_of n ws) (λ row. solution_of n (each_once (vs ++ ws)) (project_merged mode vs ws row)) (passing d vs ws cs mode) (algebra.holds_if_any c)
            passes (λ l r p q. merged_solution n d mode vs ws l r p q.cells) m (λ l p. merged_padded n d mode vs ws m l p) (here g) (there g) (every_here g) (every_there g)
