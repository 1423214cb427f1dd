-- GRAPH: plans in modes without graphs, and a plan after the names of the graphs.
use Rattle.std.proofs.Common.{◌≡◌, ℕ, ◌+◌, Bool, true, false, List, [], ◌∷◌, ◌++◌, map, length, refl, sym, ap, subst, ◌∙◌, append-nil}
use Rattle.std.specs.Prelude.{Option, Some, None, filter, flat_map, Contains, nat_eq, if◌then◌else◌}
use Rattle.std.specs.List.Sorted.{IsPermutation}
use Rattle.std.specs.List.{range_with_len, position_or_len}
use Rattle.std.proofs.lemmas.List.{map-append}
use Rattle.std.proofs.lemmas.List.Elements.{filter-append}
use Rattle.vkg_lists.proofs.Counts.{eq_comm}
use Rattle.vkg_lists.proofs.Distinct.{IsDistinct-distinct}
use Rattle.vkg_lists.proofs.SameMembers.{members_bag}
use Rattle.vkg_lists.proofs.Groups.{flat_map_only}
use Rattle.std.proofs.lemmas.List.Sorted.{IsPermutation-map, IsPermutation-refl, IsPermutation-trans}
use Rattle.vkg_lists.proofs.Bags.{bag_same, bag_filter, bag_flat_map}
use Rattle.vkg_lists.proofs.Walks.{map-map}
use Rattle.vkg_lists.proofs.Members.{Contains-none, Contains-from_map, Contains-from_flat_map, filter_keeps}
use Rattle.vkg_terms.specs.declared.term.Term.{Term}
use Rattle.vkg_terms.specs.declared.term.Term.TheVariants.{Iri}
use Rattle.vkg_terms.specs.Same.{term_eq}
use Rattle.vkg_terms.proofs.SameLemmas.{terms_apart}
use Rattle.vkg_cells.specs.declared.cell.Cell.TheVariants as cell
use Rattle.vkg_schema.specs.Rows.{Row, cell_at}
use Rattle.vkg_schema.proofs.RowCells.{cell_at-right}
use Rattle.vkg_algebra.specs.Solutions.{Solution}
use Rattle.vkg_algebra.specs.Evaluation.{Dataset, graph_names}
use Rattle.vkg_expr.specs.Expr.{Expr, Col}
use Rattle.vkg_expr.specs.Logic.{truth_const}
use Rattle.vkg_expr.specs.Value.{value_of, term_of, holds}
use Rattle.vkg_plan.specs.Rows.{pairs, product}
use Rattle.vkg_algebra.specs.Visible.{has}
use Rattle.vkg_unfolded.specs.Unfolded.{column, visible_column}
use Rattle.vkg_unfolded.specs.declared.mode.Mode.TheVariants.{Default, InGraph, Each}
use Rattle.vkg_unfolded.specs.StandsFor.{IsIn, belongs, hidden_is, term_in, solution_of, solutions_of}
use Rattle.vkg_unfolded.specs.FineRows.{IsNarrow}
use Rattle.vkg_answers.proofs.Reading.{AreTermCells, IsTermCell, read, read_there, read_none, read_project}
use Rattle.vkg_answers.proofs.Modes.{IsRowOf, cell_at-after, hidden_found}
use Rattle.vkg_answers.proofs.Steps.{Stands, projected, product-two}

-- rows without a graph that are these solutions
pub record Plain (n : ℕ) (d : Dataset) (vs : List ℕ) (rows : List Row) (answers : List Solution) : Type 0 where
  pub are_rows : (row : Row) → Contains rows row → IsRowOf d Default vs row
  pub bag : IsPermutation (solutions_of n vs rows) answers

-- in a mode without graphs it is the same
in_named : (d : Dataset) (i : List ℕ) (vs : List ℕ) (row : Row) → IsRowOf d (InGraph i) vs row → IsRowOf d Default vs row
in_named d i vs row h = record { size = h.size; cells = h.cells; graph = tt }

to_named : (d : Dataset) (i : List ℕ) (vs : List ℕ) (row : Row) → IsRowOf d Default vs row → IsRowOf d (InGraph i) vs row
to_named d i vs row h = record { size = h.size; cells = h.cells; graph = tt }

pub plain_named : (n : ℕ) (d : Dataset) (i : List ℕ) (vs : List ℕ) (rows : List Row) (A : Option Term → List Solution) → Stands n d (InGraph i) vs rows A → Plain n d vs rows (A (Some (Iri i)))
plain_named n d i vs rows A a = record {
  are_rows = λ row c. in_named d i vs row (a.are_rows row c);
  bag = IsPermutation-trans _ _ _ (bag_same (ap (map (solution_of n vs)) (sym (filter_keeps (belongs (InGraph i) (length vs) (Some (Iri i))) rows (λ x c. refl))))) (a.bag (Some (Iri i)) refl);
}

pub stands_default : (n : ℕ) (d : Dataset) (vs : List ℕ) (rows : List Row) (S : List Solution) → Plain n d vs rows S → Stands n d Default vs rows (λ g. S)
stands_default n d vs rows S a = record {
  are_rows = a.are_rows;
  bag = λ g h. IsPermutation-trans _ _ _ (bag_same (ap (map (solution_of n vs)) (filter_keeps (belongs Default (length vs) g) rows (λ x c. refl)))) a.bag;
}

pub stands_named : (n : ℕ) (d : Dataset) (i : List ℕ) (vs : List ℕ) (rows : List Row) (S : List Solution) → Plain n d vs rows S → Stands n d (InGraph i) vs rows (λ g. S)
stands_named n d i vs rows S a = record {
  are_rows = λ row c. to_named d i vs row (a.are_rows row c);
  bag = λ g h. IsPermutation-trans _ _ _ (bag_same (ap (map (solution_of n vs)) (filter_keeps (belongs (InGraph i) (length vs) g) rows (λ x c. refl)))) a.bag;
}

-- ---- a plan after another one, whose rows have m columns

abbrev pub after_row : List ℕ → ℕ → List Expr → Row → Row
after_row vs m es row = map (λ e. value_of e row) (map (column vs m) vs ++ es)

after_term : (vs : List ℕ) (m : ℕ) (es : List Expr) (l r : Row) → length l ≡ m → (v : ℕ) → term_in (visible_column vs) (after_row vs m es (l ++ r)) v ≡ term_in (visible_column vs) r v
after_term vs m es l r h v = ap term_of (read_project (column vs m) es vs (l ++ r) v ∙ of (has vs v) refl)
  where
    of : (b : Bool) → has vs v ≡ b → (if b then value_of (column vs m v) (l ++ r) else cell.Null) ≡ read vs r v
    of true e = cell_at-right l r (m + position_or_len (nat_eq v) vs) (position_or_len (nat_eq v) vs) (ap (λ k. k + position_or_len (nat_eq v) vs) (sym h)) ∙ sym (read_there vs r v e)
    of false e = sym (read_none vs r v e)

after_solution : (n : ℕ) (vs : List ℕ) (m : ℕ) (es : List Expr) (l r : Row) → length l ≡ m → solution_of n vs (after_row vs m es (l ++ r)) ≡ solution_of n vs r
after_solution n vs m es l r h = λ i. map (λ v. after_term vs m es l r h v i) (range_with_len 0 n)

after_typed : (vs : List ℕ) (m : ℕ) (l r : Row) → length l ≡ m → AreTermCells r → (v : ℕ) → IsTermCell (value_of (column vs m v) (l ++ r))
after_typed vs m l r h p v = subst IsTermCell (sym (cell_at-right l r (m + k) k (ap (λ j. j + k) (sym h)))) (p k)
  where
    k : ℕ
    k = position_or_len (nat_eq v) vs

-- the one that has a row without columns, or none
pub after_exists : (n : ℕ) (d : Dataset) (vs : List ℕ) (b : Bool) (rows : List Row) (S : List Solution) → Plain n d vs rows S →
    Plain n d vs (map (after_row vs 0 []) (filter (holds (truth_const true)) (product ((if b then [] ∷ [] else []) ∷ rows ∷ [])))) (if b then S else [])
after_exists n d vs false rows S a = record { are_rows = λ row c. absurd (Contains-none row c); bag = IsPermutation-refl _ }
after_exists n d vs true rows S a = Prim.rw (product-two ([] ∷ []) rows, filter_keeps (holds (truth_const true)) (pairs ([] ∷ []) rows) (λ x c. refl), append-nil (map (λ r. [] ++ r) rows)) (record {
  are_rows = λ row c.
      let x = Contains-from_map (after_row vs 0 []) (map (λ r. [] ++ r) rows) row c in
      let y = Contains-from_map (λ r. [] ++ r) rows x.0 x.1 in
      subst (IsRowOf d Default vs) (ap (after_row vs 0 []) y.2 ∙ x.2) (projected d Default (column vs 0) vs (Col 0) ([] ++ y.0) (after_typed vs 0 [] y.0 refl (a.are_rows y.0 y.1).cells) tt);
  bag = IsPermutation-trans _ _ _ (bag_same (same_solutions rows)) a.bag;
})
  where
    same_solutions : (xs : List Row) → solutions_of n vs (map (after_row vs 0 []) (map (λ r. [] ++ r) xs)) ≡ solutions_of n vs xs
    same_solutions [] = refl
    same_solutions (x ∷ xs) = λ i. after_solution n vs 0 [] [] x refl i ∷ same_solutions xs i

-- the names of the graphs
abbrev pub name_row : Term → Row
name_row i = cell.Term i ∷ []

all_or_none : {X : Type 0} (f : Row → Row) (k : Row → Bool) (s t : Row → X) (b : Bool) → ((r : Row) → k (f r) ≡ b) → ((r : Row) → s (f r) ≡ t r) → (rs : List Row) → map s (filter k (map f rs)) ≡ (if b then map t rs else [])
all_or_none f k s t b h e [] = of b
  where
    of : (b : Bool) → map s [] ≡ (if b then map t [] else [])
    of true = refl
    of false = refl
all_or_none f k s t true h e (r ∷ rs) = Prim.rw (h r) (λ i. e r i ∷ all_or_none f k s t true h e rs i)
all_or_none f k s t false h e (r ∷ rs) = Prim.rw (h r) (all_or_none f k s t false h e rs)

pub after_names : (n : ℕ) (d : Dataset) (vs : List ℕ) (names rows : List Row) (S : List Solution) →
    IsPermutation names (map name_row (graph_names d)) → ((i : Term) → Contains (graph_names d) i → IsNarrow (Some i)) → Plain n d vs rows S →
    Stands n d Each vs (map (after_row vs 1 (Col 0 ∷ [])) (filter (holds (truth_const true)) (product (names ∷ rows ∷ [])))) (λ g. S)
after_names n d vs names rows S p narrow a = Prim.rw (product-two names rows, filter_keeps (holds (truth_const true)) (pairs names rows) (λ x c. refl)) (record {
  are_rows = rows_fine;
  bag = in_each;
})
  where
    proj : Row → Row
    proj = after_row vs 1 (Col 0 ∷ [])

    hidden : (j : Term) (r : Row) → cell_at (proj (name_row j ++ r)) (length vs) ≡ cell.Term j
    hidden j r = cell_at-after (column vs 1) vs (Col 0) (name_row j ++ r)

    rows_fine : (row : Row) → Contains (map proj (pairs names rows)) row → IsRowOf d Each vs row
    rows_fine row c =
        let x = Contains-from_map proj (pairs names rows) row c in
        let y = Contains-from_flat_map (λ l. map (λ r. l ++ r) rows) names x.0 x.1 in
        let z = Contains-from_map (λ r. y.0 ++ r) rows x.0 y.2 in
        let w = Contains-from_map name_row (graph_names d) y.0 ((members_bag p).onto y.0 y.1) in
        subst (IsRowOf d Each vs) (ap (λ l. proj (l ++ z.0)) w.2 ∙ ap proj z.2 ∙ x.2)
        (projected d Each (column vs 1) vs (Col 0) (name_row w.0 ++ z.0) (after_typed vs 1 (name_row w.0) z.0 refl (a.are_rows z.0 z.1).cells) ((refl, narrow w.0 w.1), (w.0, w.1, refl)))

    in_one : (i : Term) (js : List Term) → solutions_of n vs (filter (hidden_is (length vs) i) (map proj (pairs (map name_row js) rows))) ≡ flat_map (λ j. if term_eq j i then solutions_of n vs rows else []) js
    in_one i [] = refl
    in_one i (j ∷ js) =
        ap (λ xs. solutions_of n vs (filter (hidden_is (length vs) i) xs)) (map-append proj (map (λ r. name_row j ++ r) rows) (pairs (map name_row js) rows))
        ∙ ap (map (solution_of n vs)) (filter-append (hidden_is (length vs) i) (map proj (map (λ r. name_row j ++ r) rows)) (map proj (pairs (map name_row js) rows)))
        ∙ map-append (solution_of n vs) (filter (hidden_is (length vs) i) (map proj (map (λ r. name_row j ++ r) rows))) (filter (hidden_is (length vs) i) (map proj (pairs (map name_row js) rows)))
        ∙ (λ t. (ap (λ xs. solutions_of n vs (filter (hidden_is (length vs) i) xs)) (map-map proj (λ r. name_row j ++ r) rows)
        ∙ all_or_none (λ r. proj (name_row j ++ r)) (hidden_is (length vs) i) (solution_of n vs) (solution_of n vs) (term_eq j i)
        (λ r. hidden_found (length vs) i j (proj (name_row j ++ r)) (hidden j r) ∙ eq_comm terms_apart i j)
        (λ r. after_solution n vs 1 (Col 0 ∷ []) (name_row j) r refl) rows) t
        ++ in_one i js t)

    in_each : (g : Option Term) → IsIn d Each g → IsPermutation (solutions_of n vs (filter (belongs Each (length vs) g) (map proj (pairs names rows)))) S
    in_each None h = let e : None ≡ Some h.0 = h.1 in cc
    in_each (Some i) h =
        let e : i ≡ h.0 = cc in
        IsPermutation-trans _ _ _ (IsPermutation-map (solution_of n vs) _ _ (bag_filter (hidden_is (length vs) i) (IsPermutation-map proj _ _ (bag_flat_map (λ l. map (λ r. l ++ r) rows) p))))
        (IsPermutation-trans _ _ _ (bag_same (in_one i (graph_names d) ∙ flat_map_only terms_apart (graph_names d) i (solutions_of n vs rows) (IsDistinct-distinct term_eq _) (subst (Contains (graph_names d)) (sym e) h.2))) a.bag)
