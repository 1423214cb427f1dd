-- GRAPH with a variable: the hidden graph of a plan in mode each becomes the variable's column.
use Rattle.std.proofs.Common.{◌≡◌, ℕ, ◌<◌, Bool, true, false, List, [], ◌∷◌, ◌++◌, map, length, refl, sym, ap, subst, ◌∙◌, arith, true≢false, append-nil}
use Rattle.std.specs.Prelude.{Option, Some, None, ◌||◌, filter, flat_map, Contains, nat_eq, slice_set, if◌then◌else◌, unwrap_or}
use Rattle.std.specs.Option.{option_or}
use Rattle.std.specs.List.{list_all, range_with_len, position_or_len}
use Rattle.std.specs.List.Sorted.{IsPermutation}
use Rattle.std.proofs.lemmas.Bool.{eqb-true}
use Rattle.vkg_lists.proofs.Tests.{nat_test}
use Rattle.vkg_lists.proofs.Counts.{eq_itself, eq_same, eq_comm}
use Rattle.vkg_lists.proofs.Distinct.{IsDistinct-distinct}
use Rattle.vkg_lists.proofs.Groups.{bag_groups}
use Rattle.std.proofs.lemmas.List.Sorted.{IsPermutation-map, IsPermutation-refl, IsPermutation-sym, IsPermutation-trans}
use Rattle.vkg_lists.proofs.Bags.{bag_same, bag_filter, bag_flat_map_each_on}
use Rattle.vkg_lists.proofs.Walks.{map-map, filter-flat_map, map-flat_map}
use Rattle.vkg_lists.proofs.Members.{Contains-here, Contains-there, Contains-from_map, Contains-from_filter, filter_agree_on}
use Rattle.vkg_lists.proofs.Bools.{or_right, same_truth}
use Rattle.vkg_lists.proofs.Onto.{or_none}
use Rattle.vkg_lists.proofs.Rows.{agree_none}
use Rattle.vkg_terms.specs.declared.term.Term.{Term}
use Rattle.vkg_terms.specs.Same.{term_eq}
use Rattle.vkg_terms.proofs.SameLemmas.{terms_apart}
use Rattle.vkg_cells.specs.declared.cell.Cell.TheVariants as cell
use Rattle.vkg_schema.specs.Rows.{Row, cell_at}
use Rattle.vkg_algebra.specs.Solutions.{Solution, compatible, merge, join, only}
use Rattle.vkg_algebra.specs.Evaluation.{Dataset, graph_names}
use Rattle.vkg_algebra.specs.Visible.{each_once, has}
use Rattle.vkg_expr.specs.Expr.{Col, Same, IsNull}
use Rattle.vkg_expr.specs.Logic.{or_of}
use Rattle.vkg_expr.specs.Value.{value_of, term_of, holds}
use Rattle.vkg_unfolded.specs.Unfolded.{default_graph, graph_column, left_column, visible_column}
use Rattle.vkg_unfolded.specs.declared.mode.Mode.TheVariants.{Default, Each}
use Rattle.vkg_unfolded.specs.StandsFor.{belongs, term_in, solution_of, solutions_of}
use Rattle.vkg_answers.proofs.Joins.{agree, merge-map, bag_join}
use Rattle.vkg_answers.proofs.Reading.{IsTermCell, read_there, read_typed, read_none, read_project, has-each_once, set_at}
use Rattle.vkg_answers.proofs.Agreement.{all_elim, all_intro, has-upto, holds-or_bound, compatible-map}
use Rattle.vkg_answers.proofs.Modes.{IsRowOf, hidden_found}
use Rattle.vkg_answers.proofs.Steps.{Stands, projected}
use Rattle.vkg_answers.proofs.Graphs.{Plain}
use Rattle.vkg_answers.proofs.Columns.{unbound_is}

-- one variable bound, by variable
abbrev pub bound_at : ℕ → Term → ℕ → Option Term
bound_at v i w = if nat_eq v w then Some i else None

pub only-map : (n v : ℕ) (i : Term) → only n v i ≡ map (bound_at v i) (range_with_len 0 n)
only-map n v i = ap (λ s. slice_set s v (Some i)) (unbound_is n 0) ∙ set_at (Some i) (λ w. None) n 0 v v (omega arith)

module _ (n : ℕ) (d : Dataset) (vs : List ℕ) (v : ℕ) (within : v < n) where
  abbrev pub graph_row : Row → Row
  graph_row row = map (λ e. value_of e row) (map (graph_column vs v) (each_once (v ∷ vs)))

  abbrev pub graph_test : Row → Bool
  graph_test row = if has vs v then holds (or_of (IsNull (left_column vs v) ∷ Same (left_column vs v) (Col (length vs)) ∷ [])) row else true

  module _ (row : Row) (p : IsRowOf d Each vs row) where
    abbrev i : Term
    i = p.graph.0

    abbrev term : ℕ → Option Term
    term w = term_in (visible_column vs) row w

    test_agrees : graph_test row ≡ agree (term v) (Some i)
    test_agrees = of (has vs v) refl
      where
        of : (b : Bool) → has vs v ≡ b → (if b then holds (or_of (IsNull (left_column vs v) ∷ Same (left_column vs v) (Col (length vs)) ∷ [])) row else true) ≡ agree (term v) (Some i)
        of true e = holds-or_bound (left_column vs v) (Col (length vs)) row (term v) i (sym (read_there vs row v e) ∙ (read_typed vs row p.cells v).0) p.graph.2
        of false e = sym (ap (λ c. agree (term_of c) (Some i)) (read_none vs row v e))

    at_v : bound_at v i v ≡ Some i
    at_v = Prim.rw (eq_itself nat_test v) refl

    compatible_is : compatible (solution_of n vs row) (only n v i) ≡ agree (term v) (Some i)
    compatible_is =
        ap (compatible (solution_of n vs row)) (only-map n v i)
        ∙ compatible-map term (bound_at v i) (range_with_len 0 n)
        ∙ same_truth (list_all agreed (range_with_len 0 n)) (agree (term v) (Some i)) onto back
      where
        agreed : ℕ → Bool
        agreed w = agree (term w) (bound_at v i w)

        onto : list_all agreed (range_with_len 0 n) ≡ true → agree (term v) (Some i) ≡ true
        onto h = ap (agree (term v)) (sym at_v) ∙ all_elim agreed (range_with_len 0 n) h v (has-upto n 0 v v within (omega arith))

        back : agree (term v) (Some i) ≡ true → list_all agreed (range_with_len 0 n) ≡ true
        back h = all_intro agreed (range_with_len 0 n) (λ w c. of w (nat_eq v w) refl)
          where
            of : (w : ℕ) (b : Bool) → nat_eq v w ≡ b → agree (term w) (if b then Some i else None) ≡ true
            of w true e = ap (λ u. agree (term u) (Some i)) (sym (eqb-true v w e)) ∙ h
            of w false e = agree_none term_eq (term w)

    -- where they agree the row is the merge
    merged_is : agree (term v) (Some i) ≡ true → solution_of n (each_once (v ∷ vs)) (graph_row row) ≡ merge (solution_of n vs row) (only n v i)
    merged_is h =
        (λ t. map (λ w. each_one w t) (range_with_len 0 n))
        ∙ sym (ap (merge (solution_of n vs row)) (only-map n v i) ∙ merge-map term (bound_at v i) (range_with_len 0 n))
      where
        all : List ℕ
        all = each_once (v ∷ vs)

        agreed : (o : Option Term) → agree o (Some i) ≡ true → option_or o (Some i) ≡ Some i
        agreed None e = refl
        agreed (Some t) e = ap Some (eq_same terms_apart t i e)

        columns : (w : ℕ) (a : Bool) → has all w ≡ a → (b : Bool) → nat_eq v w ≡ b → term_of (if a then value_of (if b then Col (length vs) else left_column vs w) row else cell.Null) ≡ option_or (term w) (if b then Some i else None)
        columns w true e true f = ap term_of p.graph.2 ∙ sym (agreed (term w) (ap (λ u. agree (term u) (Some i)) (sym (eqb-true v w f)) ∙ h))
        columns w true e false f = of (has vs w) refl
          where
            of : (c : Bool) → has vs w ≡ c → term_of (value_of (left_column vs w) row) ≡ option_or (term w) None
            of true g = ap term_of (sym (read_there vs row w g)) ∙ sym (or_none (term w))
            of false g = absurd (true≢false (sym e ∙ has-each_once (v ∷ vs) w ∙ (λ t. (eq_comm nat_test w v ∙ f) t || g t)))
        columns w false e true f = absurd (true≢false (sym (has-each_once (v ∷ vs) w ∙ ap (λ x. x || has vs w) (ap (λ u. nat_eq w u) (eqb-true v w f) ∙ eq_itself nat_test w)) ∙ e))
        columns w false e false f = of (has vs w) refl
          where
            of : (c : Bool) → has vs w ≡ c → None ≡ option_or (term w) None
            of true g = absurd (true≢false (sym (has-each_once (v ∷ vs) w ∙ or_right (nat_eq w v) (has vs w) g) ∙ e))
            of false g = sym (or_none (term w) ∙ ap term_of (read_none vs row w g))

        each_one : (w : ℕ) → term_in (visible_column all) (graph_row row) w ≡ option_or (term w) (bound_at v i w)
        each_one w =
            ap (λ es. term_in (visible_column all) (map (λ e. value_of e row) es) w) (sym (append-nil (map (graph_column vs v) all)))
            ∙ ap term_of (read_project (graph_column vs v) [] all row w)
            ∙ columns w (has all w) refl (nat_eq v w) refl

    pub graph_row_fine : IsRowOf d Default (each_once (v ∷ vs)) (graph_row row)
    graph_row_fine = subst (λ es. IsRowOf d Default (each_once (v ∷ vs)) (map (λ e. value_of e row) es)) (append-nil (map (graph_column vs v) (each_once (v ∷ vs))))
        (projected d Default (graph_column vs v) (each_once (v ∷ vs)) (Col 0) row (λ w. of w (nat_eq v w)) tt)
      where
        of : (w : ℕ) (b : Bool) → IsTermCell (value_of (if b then Col (length vs) else left_column vs w) row)
        of w true = p.cells (length vs)
        of w false = p.cells (position_or_len (nat_eq w) vs)

  -- the rows of one graph
  in_one : (j : Term) (rows : List Row) → ((row : Row) → Contains rows row → (p : IsRowOf d Each vs row) × (p.graph.0 ≡ j)) →
      map (λ row. solution_of n (each_once (v ∷ vs)) (graph_row row)) (filter graph_test rows) ≡ join (solutions_of n vs rows) (only n v j ∷ [])
  in_one j [] h = refl
  in_one j (row ∷ rows) h =
      let p = (h row (Contains-here row rows)).0 in
      let e = (h row (Contains-here row rows)).1 in
      let c = subst (λ t. compatible (solution_of n vs row) (only n v t) ≡ agree (term_in (visible_column vs) row v) (Some t)) e (compatible_is row p) in
      let t = subst (λ t. graph_test row ≡ agree (term_in (visible_column vs) row v) (Some t)) e (test_agrees row p) in
      let m = subst (λ t. agree (term_in (visible_column vs) row v) (Some t) ≡ true → solution_of n (each_once (v ∷ vs)) (graph_row row) ≡ merge (solution_of n vs row) (only n v t)) e (merged_is row p) in
      Prim.rw (t, c) (of (in_one j rows (λ x k. h x (Contains-there row rows x k))) m (agree (term_in (visible_column vs) row v) (Some j)) refl)
    where
      rest : List Row
      rest = filter graph_test rows

      of : map (λ row. solution_of n (each_once (v ∷ vs)) (graph_row row)) (filter graph_test rows) ≡ join (solutions_of n vs rows) (only n v j ∷ []) →
          (agree (term_in (visible_column vs) row v) (Some j) ≡ true → solution_of n (each_once (v ∷ vs)) (graph_row row) ≡ merge (solution_of n vs row) (only n v j)) →
          (b : Bool) → agree (term_in (visible_column vs) row v) (Some j) ≡ b →
          map (λ row. solution_of n (each_once (v ∷ vs)) (graph_row row)) (if b then row ∷ filter graph_test rows else filter graph_test rows)
          ≡ ((if b then merge (solution_of n vs row) (only n v j) ∷ [] else []) ++ []) ++ join (solutions_of n vs rows) (only n v j ∷ [])
      of ind m true e = λ i. m e i ∷ ind i
      of ind m false e = ind

  -- the hidden graph of a row
  hidden_key : Row → Term
  hidden_key row = unwrap_or (term_of (cell_at row (length vs))) default_graph

  pub variable_stands : (rows : List Row) (A : Option Term → List Solution) → Stands n d Each vs rows A →
      Plain n d (each_once (v ∷ vs)) (map graph_row (filter graph_test rows)) (flat_map (λ i. join (A (Some i)) (only n v i ∷ [])) (graph_names d))
  unfolding hidden_key
  variable_stands rows A a = record {
    are_rows = λ row c.
        let x = Contains-from_map graph_row (filter graph_test rows) row c in
        subst (IsRowOf d Default (each_once (v ∷ vs))) x.2 (graph_row_fine x.0 (a.are_rows x.0 (Contains-from_filter graph_test rows x.0 x.1).0));
    bag = IsPermutation-trans _ _ _ (bag_same (map-map (solution_of n (each_once (v ∷ vs))) graph_row (filter graph_test rows)))
        (IsPermutation-trans _ _ _ (IsPermutation-map solution _ _ (bag_filter graph_test (IsPermutation-sym _ _ grouped)))
        (IsPermutation-trans _ _ _ (bag_same (ap (map solution) (filter-flat_map graph_test part (graph_names d)) ∙ map-flat_map solution (λ j. filter graph_test (part j)) (graph_names d)))
        (bag_flat_map_each_on (λ j. map solution (filter graph_test (part j))) (λ i. join (A (Some i)) (only n v i ∷ [])) (graph_names d) (λ j c.
        IsPermutation-trans _ _ _ (bag_same (in_one j (part j) (in_part j) ∙ ap (λ xs. join (solutions_of n vs xs) (only n v j ∷ [])) (part_is j))) (bag_join {rs = only n v j ∷ []} {ss = only n v j ∷ []} (a.bag (Some j) (j, refl, c)) (IsPermutation-refl _))))));
  }
    where
      solution : Row → Solution
      solution row = solution_of n (each_once (v ∷ vs)) (graph_row row)

      part : Term → List Row
      part j = filter (λ row. term_eq j (hidden_key row)) rows

      key_is : (row : Row) → (p : IsRowOf d Each vs row) → hidden_key row ≡ p.graph.0
      key_is row p = ap (λ c. unwrap_or (term_of c) default_graph) p.graph.2

      grouped : IsPermutation (flat_map part (graph_names d)) rows
      grouped = bag_groups terms_apart hidden_key (graph_names d) rows (IsDistinct-distinct term_eq _) (λ row c. let p = a.are_rows row c in subst (Contains (graph_names d)) (sym (key_is row p)) p.graph.1)

      in_part : (j : Term) (row : Row) → Contains (part j) row → (p : IsRowOf d Each vs row) × (p.graph.0 ≡ j)
      in_part j row c =
          let x = Contains-from_filter (λ row. term_eq j (hidden_key row)) rows row c in
          let p = a.are_rows row x.0 in
          (p, sym (key_is row p) ∙ sym (eq_same terms_apart j (hidden_key row) x.1))

      part_is : (j : Term) → part j ≡ filter (belongs Each (length vs) (Some j)) rows
      part_is j = filter_agree_on (λ row. term_eq j (hidden_key row)) (belongs Each (length vs) (Some j)) rows
          (λ row c. let p = a.are_rows row c in ap (term_eq j) (key_is row p) ∙ sym (hidden_found (length vs) j p.graph.0 row p.graph.2))
