-- BIND: its rows stand for its solutions, if those of its part do.
use Rattle.std.proofs.Common.{◌≡◌, ℕ, Bool, true, false, List, [], ◌∷◌, ◌++◌, map, length, refl, sym, ap, subst, ◌∙◌, arith, true≢false}
use Rattle.std.proofs.Math.Bool.{or-true}
use Rattle.std.specs.Prelude.{Option, Some, None, ◌||◌, filter, nat_eq, Contains, if◌then◌else◌}
use Rattle.std.specs.Option.{option_map_or}
use Rattle.std.specs.List.{range_with_len}
use Rattle.std.proofs.lemmas.List.Sorted.{IsPermutation-map, IsPermutation-trans}
use Rattle.vkg_lists.proofs.Bags.{bag_same}
use Rattle.vkg_lists.proofs.Bools.{neither}
use Rattle.vkg_lists.proofs.Counts.{eq_comm}
use Rattle.vkg_lists.proofs.Members.{Contains-from_filter, Contains-from_map, map_agree_on}
use Rattle.vkg_lists.proofs.Tests.{nat_test}
use Rattle.vkg_lists.proofs.Walks.{filter-map, map-map}
use Rattle.vkg_terms.specs.Same.{term_eq}
use Rattle.vkg_terms.specs.declared.term.Term.{Term}
use Rattle.vkg_cells.specs.declared.cell.Cell.TheVariants as cell
use Rattle.vkg_schema.specs.Rows.{Row}
use Rattle.vkg_sparql.specs.Query.{Condition}
use Rattle.vkg_algebra.specs.Solutions.{Solution, extended}
use Rattle.vkg_algebra.specs.Evaluation.{Dataset}
use Rattle.vkg_algebra.specs.Values.{expression_value}
use Rattle.vkg_algebra.specs.Visible.{each_once, has}
use Rattle.vkg_expr.specs.Expr.{Col}
use Rattle.vkg_expr.specs.Value.{value_of, term_of, term_cell}
use Rattle.vkg_expr.proofs.ReadBack.{term_back}
use Rattle.vkg_unfolded.specs.Conditions.{value_expr}
use Rattle.vkg_unfolded.specs.declared.mode.Mode.{Mode}
use Rattle.vkg_unfolded.specs.declared.mode.Mode.TheVariants.{Default, InGraph, Each}
use Rattle.vkg_unfolded.specs.FineRows.{IsNarrow}
use Rattle.vkg_unfolded.specs.StandsFor.{belongs, term_in, solution_of, solutions_of}
use Rattle.vkg_unfolded.specs.Unfolded.{extend_column, if_each, visible_column}
use Rattle.vkg_answers.proofs.Modes.{IsRowOf, cell_at-after}
use Rattle.vkg_answers.proofs.Reading.{AreBelow, IsTermCell, has_union, is_term_cell, lookup-solution, read_none, read_project, read_typed, set_at}
use Rattle.vkg_answers.proofs.Steps.{Stands, graph_cell, projected}
use Rattle.vkg_answers.proofs.Values.{IsNarrowCondition, Means, value_means}

module _ (n : ℕ) (d : Dataset) (mode : Mode) (vs : List ℕ) (below : AreBelow n vs) (v : ℕ) (c : Condition) (lawful : IsNarrowCondition c) where
  abbrev all : List ℕ
  all = each_once (vs ++ v ∷ [])

  abbrev wider : Row → Row
  wider row = map (λ e. value_of e row) (map (extend_column vs v c) all ++ if_each mode (Col (length vs)))

  -- the value under the row's solution
  abbrev value : Row → Option Term
  value row = expression_value c (solution_of n vs row)

  means_value : (row : Row) → IsRowOf d mode vs row → Means false (value_of (value_expr (visible_column vs) c) row) (value row)
  means_value row p = value_means (visible_column vs) row (solution_of n vs row)
      (λ w. (read_typed vs row p.cells w).0 ∙ ap term_cell (sym (lookup-solution n vs row w below)))
      (λ w. subst IsNarrow (sym (lookup-solution n vs row w below)) (read_typed vs row p.cells w).1) c lawful

  wider_cell : (row : Row) → IsRowOf d mode vs row → (w : ℕ) → IsTermCell (value_of (extend_column vs v c w) row)
  wider_cell row p w = of (nat_eq v w)
    where
      of : (b : Bool) → IsTermCell (value_of (if b then value_expr (visible_column vs) c else visible_column vs w) row)
      of true = let m = means_value row p in is_term_cell (value_of (value_expr (visible_column vs) c) row) (value row) m.0 m.1
      of false = read_typed vs row p.cells w

  wider_term : (row : Row) → IsRowOf d mode vs row → (w : ℕ) → term_in (visible_column all) (wider row) w ≡ (if nat_eq v w then value row else term_in (visible_column vs) row w)
  wider_term row p w = ap term_of (read_project (extend_column vs v c) (if_each mode (Col (length vs))) all row w) ∙ of (has all w) refl (nat_eq v w) refl
    where
      absent : has all w ≡ false → (has vs w ≡ false) × ((nat_eq w v || false) ≡ false)
      absent e = neither (has vs w) (nat_eq w v || false) (sym (has_union vs (v ∷ []) w) ∙ e)

      of : (a : Bool) → has all w ≡ a → (b : Bool) → nat_eq v w ≡ b →
          term_of (if a then value_of (if b then value_expr (visible_column vs) c else visible_column vs w) row else cell.Null) ≡ (if b then value row else term_in (visible_column vs) row w)
      of true e true f = ap term_of (means_value row p).0 ∙ term_back (value row)
      of true e false f = refl
      of false e true f = absurd (true≢false (sym (ap (λ b. b || false) (eq_comm nat_test w v ∙ f)) ∙ (absent e).1))
      of false e false f = ap term_of (sym (read_none vs row w (absent e).0))

  wider_solution : (row : Row) → IsRowOf d mode vs row → solution_of n all (wider row) ≡ extended v (value row) (solution_of n vs row)
  wider_solution row p =
      (λ i. map (λ w. wider_term row p w i) (range_with_len 0 n))
      ∙ sym (set_at (value row) (term_in (visible_column vs) row) n 0 v v (omega arith))

  wider_belongs : (g : Option Term) (row : Row) → belongs mode (length all) g (wider row) ≡ belongs mode (length vs) g row
  wider_belongs g row = of mode g
    where
      of : (m : Mode) (g : Option Term) → belongs m (length all) g (map (λ e. value_of e row) (map (extend_column vs v c) all ++ if_each m (Col (length vs)))) ≡ belongs m (length vs) g row
      of Default g = refl
      of (InGraph i) g = refl
      of Each None = refl
      of Each (Some i) = ap (λ k. option_map_or (term_eq i) (term_of k) false) (cell_at-after (extend_column vs v c) all (Col (length vs)) row)

  pub extend_stands : (rows : List Row) (A : Option Term → List Solution) → Stands n d mode vs rows A → Stands n d mode all (map wider rows) (λ g. map (λ s. extended v (expression_value c s) s) (A g))
  extend_stands rows A a = record {
    are_rows = λ row k.
        let x = Contains-from_map wider rows row k in
        let p = a.are_rows x.0 x.1 in
        subst (IsRowOf d mode all) x.2 (projected d mode (extend_column vs v c) all (Col (length vs)) x.0 (wider_cell x.0 p) (graph_cell d mode vs x.0 p));
    bag = λ g h. IsPermutation-trans _ _ _ (bag_same (equal g)) (IsPermutation-map (λ s. extended v (expression_value c s) s) _ _ (a.bag g h));
  }
    where
      equal : (g : Option Term) → solutions_of n all (filter (belongs mode (length all) g) (map wider rows)) ≡ map (λ s. extended v (expression_value c s) s) (solutions_of n vs (filter (belongs mode (length vs) g) rows))
      equal g =
          ap (map (solution_of n all)) (filter-map (belongs mode (length all) g) wider rows)
          ∙ map-map (solution_of n all) wider (filter (λ row. belongs mode (length all) g (wider row)) rows)
          ∙ (λ i. map (λ row. solution_of n all (wider row)) (filter (λ row. wider_belongs g row i) rows))
          ∙ map_agree_on (λ row. solution_of n all (wider row)) (λ row. extended v (value row) (solution_of n vs row)) (filter (belongs mode (length vs) g) rows)
          (λ row k. wider_solution row (a.are_rows row (Contains-from_filter (belongs mode (length vs) g) rows row k).0))
          ∙ sym (map-map (λ s. extended v (expression_value c s) s) (solution_of n vs) (filter (belongs mode (length vs) g) rows))
