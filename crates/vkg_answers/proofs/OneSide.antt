-- Filter and Union: their rows stand for their solutions, if those of their parts do.
use Rattle.std.proofs.Common.{◌≡◌, ℕ, Bool, true, false, ⊎_elim, List, ◌++◌, map, length, refl, sym, ap, subst, ◌∙◌, true≢false}
use Rattle.std.specs.Prelude.{Option, Some, None, filter, if◌then◌else◌}
use Rattle.std.specs.Option.{option_map_or}
use Rattle.std.specs.List.{range_with_len}
use Rattle.std.proofs.lemmas.List.{map-append}
use Rattle.std.proofs.lemmas.List.Elements.{filter-append, Contains-append_cases}
use Rattle.std.proofs.lemmas.List.Sorted.{IsPermutation-append, IsPermutation-trans}
use Rattle.vkg_lists.proofs.Bags.{bag_same, bag_filter}
use Rattle.vkg_lists.proofs.Walks.{filter-map, filter_comm, map-map}
use Rattle.vkg_lists.proofs.Members.{Contains-from_map, Contains-from_filter, filter_agree_on}
use Rattle.vkg_terms.specs.Same.{term_eq}
use Rattle.vkg_terms.specs.declared.term.Term.{Term}
use Rattle.vkg_cells.specs.declared.cell.Cell.TheVariants as cell
use Rattle.vkg_schema.specs.Rows.{Row}
use Rattle.vkg_sparql.specs.Query.{Condition}
use Rattle.vkg_algebra.specs.Solutions.{Solution}
use Rattle.vkg_algebra.specs.Evaluation.{Dataset}
use Rattle.vkg_algebra.specs.Values as algebra
use Rattle.vkg_expr.specs.Expr.{Col}
use Rattle.vkg_expr.specs.Value.{value_of, term_of, term_cell, holds}
use Rattle.vkg_unfolded.specs.Conditions.{truth_expr}
use Rattle.vkg_unfolded.specs.declared.mode.Mode.{Mode}
use Rattle.vkg_unfolded.specs.declared.mode.Mode.TheVariants.{Default, InGraph, Each}
use Rattle.vkg_algebra.specs.Visible.{has}
use Rattle.vkg_unfolded.specs.Unfolded.{if_each, visible_column}
use Rattle.vkg_unfolded.specs.StandsFor.{belongs, term_in, solution_of, solutions_of}
use Rattle.vkg_unfolded.specs.FineRows.{IsNarrow}
use Rattle.vkg_answers.proofs.Values.{IsNarrowCondition}
use Rattle.vkg_answers.proofs.Reading.{AreBelow, read_typed, read_none, read_project, lookup-solution}
use Rattle.vkg_answers.proofs.Modes.{IsRowOf, cell_at-after}
use Rattle.vkg_answers.proofs.Steps.{Stands, projected, graph_cell, truth_alike}

-- FILTER
module _ (n : ℕ) (d : Dataset) (mode : Mode) (vs : List ℕ) (below : AreBelow n vs) (rows : List Row) (A : Option Term → List Solution) (a : Stands n d mode vs rows A) (c : Condition) (lawful : IsNarrowCondition c) where
  condition_alike : (row : Row) → IsRowOf d mode vs row → holds (truth_expr (visible_column vs) c) row ≡ algebra.holds c (solution_of n vs row)
  condition_alike row p = truth_alike (visible_column vs) row (solution_of n vs row) c lawful
      (λ v. (read_typed vs row p.cells v).0 ∙ ap term_cell (sym (lookup-solution n vs row v below)))
      (λ v. subst IsNarrow (sym (lookup-solution n vs row v below)) (read_typed vs row p.cells v).1)

  pub filter_stands : Stands n d mode vs (filter (holds (truth_expr (visible_column vs) c)) rows) (λ g. filter (algebra.holds c) (A g))
  filter_stands = record {
    are_rows = λ row k. a.are_rows row (Contains-from_filter (holds (truth_expr (visible_column vs) c)) rows row k).0;
    bag = λ g h. IsPermutation-trans _ _ _ (bag_same (equal g)) (bag_filter (algebra.holds c) (a.bag g h));
  }
    where
      equal : (g : Option Term) → solutions_of n vs (filter (belongs mode (length vs) g) (filter (holds (truth_expr (visible_column vs) c)) rows)) ≡ filter (algebra.holds c) (solutions_of n vs (filter (belongs mode (length vs) g) rows))
      equal g =
          ap (map (solution_of n vs)) (filter_comm (belongs mode (length vs) g) (holds (truth_expr (visible_column vs) c)) rows
          ∙ filter_agree_on (holds (truth_expr (visible_column vs) c)) (λ row. algebra.holds c (solution_of n vs row)) (filter (belongs mode (length vs) g) rows)
          (λ row k. condition_alike row (a.are_rows row (Contains-from_filter (belongs mode (length vs) g) rows row k).0)))
          ∙ sym (filter-map (algebra.holds c) (solution_of n vs) (filter (belongs mode (length vs) g) rows))

-- UNION
abbrev pub widened : Mode → List ℕ → List ℕ → Row → Row
widened mode all vs row = map (λ e. value_of e row) (map (visible_column vs) all ++ if_each mode (Col (length vs)))

module _ (n : ℕ) (d : Dataset) (mode : Mode) (all vs : List ℕ) (more : (v : ℕ) → has vs v ≡ true → has all v ≡ true) where
  pub widened_term : (row : Row) (v : ℕ) → term_in (visible_column all) (widened mode all vs row) v ≡ term_in (visible_column vs) row v
  widened_term row v = ap term_of (read_project (visible_column vs) (if_each mode (Col (length vs))) all row v) ∙ of (has all v) refl (has vs v) refl
    where
      of : (a : Bool) → has all v ≡ a → (b : Bool) → has vs v ≡ b → term_of (if a then value_of (visible_column vs v) row else cell.Null) ≡ term_of (value_of (visible_column vs v) row)
      of true e b f = refl
      of false e true f = absurd (true≢false (sym (more v f) ∙ e))
      of false e false f = ap term_of (sym (read_none vs row v f))

  widened_belongs : (mode : Mode) (g : Option Term) (row : Row) → belongs mode (length all) g (widened mode all vs row) ≡ belongs mode (length vs) g row
  widened_belongs Default g row = refl
  widened_belongs (InGraph i) g row = refl
  widened_belongs Each None row = refl
  widened_belongs Each (Some i) row = ap (λ c. option_map_or (term_eq i) (term_of c) false) (cell_at-after (visible_column vs) all (Col (length vs)) row)

  pub widened_stands : (rows : List Row) (A : Option Term → List Solution) → Stands n d mode vs rows A → Stands n d mode all (map (widened mode all vs) rows) A
  widened_stands rows A a = record {
    are_rows = λ row k.
        let x = Contains-from_map (widened mode all vs) rows row k in
        subst (IsRowOf d mode all) x.2 (projected d mode (visible_column vs) all (Col (length vs)) x.0 (read_typed vs x.0 (a.are_rows x.0 x.1).cells) (graph_cell d mode vs x.0 (a.are_rows x.0 x.1)));
    bag = λ g h. IsPermutation-trans _ _ _ (bag_same (equal g)) (a.bag g h);
  }
    where
      equal : (g : Option Term) → solutions_of n all (filter (belongs mode (length all) g) (map (widened mode all vs) rows)) ≡ solutions_of n vs (filter (belongs mode (length vs) g) rows)
      equal g =
          ap (map (solution_of n all)) (filter-map (belongs mode (length all) g) (widened mode all vs) rows)
          ∙ map-map (solution_of n all) (widened mode all vs) (filter (λ row. belongs mode (length all) g (widened mode all vs row)) rows)
          ∙ (λ i. map (λ row. map (λ v. widened_term row v i) (range_with_len 0 n)) (filter (λ row. widened_belongs mode g row i) rows))

pub append_stands : (n : ℕ) (d : Dataset) (mode : Mode) (vs : List ℕ) (xs ys : List Row) (A B : Option Term → List Solution) → Stands n d mode vs xs A → Stands n d mode vs ys B → Stands n d mode vs (xs ++ ys) (λ g. A g ++ B g)
append_stands n d mode vs xs ys A B a b = record {
  are_rows = λ row k. ⊎_elim (a.are_rows row) (b.are_rows row) (Contains-append_cases xs ys row k);
  bag = λ g h. IsPermutation-trans _ _ _ (bag_same (ap (map (solution_of n vs)) (filter-append (belongs mode (length vs) g) xs ys) ∙ map-append (solution_of n vs) (filter (belongs mode (length vs) g) xs) (filter (belongs mode (length vs) g) ys))) (IsPermutation-append _ _ _ _ (a.bag g h) (b.bag g h));
}
