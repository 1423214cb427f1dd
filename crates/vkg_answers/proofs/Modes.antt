-- What the rows of a mode are, and the condition of a Join or a Left over them.
use Rattle.std.proofs.Common.{◌≡◌, ℕ, ◌+◌, ◌≤◌, Bool, true, false, List, [], ◌∷◌, ◌++◌, map, length, refl, sym, ap, ◌∙◌, arith}
use Rattle.std.proofs.Math.Bool.{and-false, and-true}
use Rattle.std.specs.Prelude.{Option, Some, None, ◌&&◌, replicate, unwrap_or}
use Rattle.std.specs.List.{list_all}
use Rattle.std.specs.Option.{option_map_or}
use Rattle.std.proofs.lemmas.List.Folds.{list_all-append}
use Rattle.vkg_lists.proofs.Counts.{eq_same}
use Rattle.vkg_terms.specs.declared.term.Term.{Term}
use Rattle.vkg_terms.specs.Same.{term_eq}
use Rattle.vkg_terms.proofs.SameLemmas.{terms_apart}
use Rattle.vkg_cells.specs.Order.{same}
use Rattle.vkg_cells.specs.declared.cell.Cell.TheVariants as cell
use Rattle.vkg_schema.specs.Rows.{Row, cell_at}
use Rattle.vkg_schema.proofs.RowCells.{cell_at-left, cell_at-right}
use Rattle.vkg_algebra.specs.Evaluation.{Dataset}
use Rattle.vkg_algebra.specs.Visible.{each_once}
use Rattle.vkg_expr.specs.Expr.{Expr, Col, Same}
use Rattle.vkg_expr.specs.Value.{value_of, term_of, truth_of, truth_cell, holds}
use Rattle.vkg_expr.specs.Logic.{and_of}
use Rattle.vkg_expr.proofs.Conjuncts.{holds-and_of}
use Rattle.vkg_unfolded.specs.declared.mode.Mode.{Mode}
use Rattle.vkg_unfolded.specs.declared.mode.Mode.TheVariants.{Default, InGraph, Each}
use Rattle.vkg_unfolded.specs.Unfolded.{merged, merged_columns, agreement, columns_in, if_each}
use Rattle.vkg_unfolded.specs.StandsFor.{IsIn, belongs, hidden_is, HasGraph}
use Rattle.vkg_answers.proofs.Reading.{AreTermCells}
use Rattle.vkg_answers.proofs.Agreement.{agreements}

-- a row of a plan with these variables in a mode
pub record IsRowOf (d : Dataset) (mode : Mode) (vs : List ℕ) (row : Row) : Type 0 where
  pub size : length row ≡ columns_in mode vs
  pub cells : AreTermCells row
  pub graph : HasGraph d mode (length vs) row

pub size_enough : (d : Dataset) (mode : Mode) (vs : List ℕ) (row : Row) → IsRowOf d mode vs row → length vs ≤ length row
size_enough d Default vs row h = omega (arith, h.size)
size_enough d (InGraph i) vs row h = omega (arith, h.size)
size_enough d Each vs row h = omega (arith, h.size)

-- the row of merged columns
abbrev pub project_merged : Mode → List ℕ → List ℕ → Row → Row
project_merged mode vs ws row = map (λ e. value_of e row) (merged_columns mode vs ws)

-- the hidden column after others
pub cell_at-after : (f : ℕ → Expr) (vs : List ℕ) (e : Expr) (row : Row) → cell_at (map (λ e. value_of e row) (map f vs ++ e ∷ [])) (length vs) ≡ value_of e row
cell_at-after f [] e row = refl
cell_at-after f (v ∷ vs) e row = cell_at-after f vs e row

pub hidden_found : (at : ℕ) (i t : Term) (row : Row) → cell_at row at ≡ cell.Term t → hidden_is at i row ≡ term_eq i t
hidden_found at i t row e = ap (λ c. option_map_or (term_eq i) (term_of c) false) e

same_graphs : (a b : Expr) (row : Row) (t u : Term) → value_of a row ≡ cell.Term t → value_of b row ≡ cell.Term u → holds (Same a b) row ≡ term_eq t u
same_graphs a b row t u e f = (λ i. unwrap_or (truth_of (truth_cell (same (e i) (f i)))) false)

-- the truths of a join's parts
near : (a c x : Bool) → ((a && (c && true)) && x) ≡ (c && (a && x))
near true true x = refl
near true false x = refl
near false true x = refl
near false false x = refl

through : (a c x : Bool) → (((a && (c && true)) && x) && true) ≡ ((true && c) && (a && x))
through a c x = and-true ((a && (c && true)) && x) ∙ near a c x

through_graph : (a x : Bool) (i t u : Term) → (b : Bool) → term_eq i t ≡ b → (((a && (term_eq t u && true)) && x) && b) ≡ ((b && term_eq i u) && (a && x))
through_graph a x i t u true e = let f : i ≡ t = eq_same terms_apart i t e in Prim.rw f (through a (term_eq t u) x)
through_graph a x i t u false e = and-false ((a && (term_eq t u && true)) && x)

near_graph : (a x : Bool) (i t u : Term) → term_eq i t ≡ true → ((a && (term_eq t u && true)) && x) ≡ (term_eq i u && (a && x))
near_graph a x i t u e = let f : i ≡ t = eq_same terms_apart i t e in Prim.rw f (near a (term_eq t u) x)

module _ (d : Dataset) (vs ws : List ℕ) (cs : List Expr) where
  -- a condition of a join, its conjuncts that speak of variables, and the graph of a joined row
  abbrev pub joined : Mode → Row → Bool
  joined mode row = holds (and_of (agreement mode vs ws ++ cs)) row

  abbrev vars_agree : Mode → Row → Bool
  vars_agree mode row = list_all (λ c. holds c row) (agreements mode vs ws)

  abbrev rest_holds : Row → Bool
  rest_holds row = list_all (λ c. holds c row) cs

  abbrev pub passing : Mode → Row → Bool
  passing mode row = vars_agree mode row && rest_holds row

  abbrev pub in_graph : Mode → Option Term → Row → Bool
  in_graph mode g row = belongs mode (length (each_once (vs ++ ws))) g (project_merged mode vs ws row)

  joined_is : (mode : Mode) (row : Row) → joined mode row ≡ ((list_all (λ c. holds c row) (agreements mode vs ws) && list_all (λ c. holds c row) (if_each mode (Same (Col (length vs)) (Col (columns_in mode vs + length ws))))) && list_all (λ c. holds c row) cs)
  joined_is mode row =
      holds-and_of row (agreement mode vs ws ++ cs)
      ∙ list_all-append (λ c. holds c row) (agreement mode vs ws) cs
      ∙ ap (λ b. b && list_all (λ c. holds c row) cs) (list_all-append (λ c. holds c row) (agreements mode vs ws) (if_each mode (Same (Col (length vs)) (Col (columns_in mode vs + length ws)))))

  module _ (l r : Row) (p : IsRowOf d Each vs l) where
    hidden_joined : (row : Row) → cell_at (project_merged Each vs ws (l ++ row)) (length (each_once (vs ++ ws))) ≡ cell.Term p.graph.0
    hidden_joined row = cell_at-after (merged Each vs ws) (each_once (vs ++ ws)) (Col (length vs)) (l ++ row) ∙ cell_at-left l row (length vs) (omega (arith, p.size)) ∙ p.graph.2

    module _ (q : IsRowOf d Each ws r) where
      pub both_graphs : holds (Same (Col (length vs)) (Col (columns_in Each vs + length ws))) (l ++ r) ≡ term_eq p.graph.0 q.graph.0
      both_graphs = same_graphs (Col (length vs)) (Col (columns_in Each vs + length ws)) (l ++ r) p.graph.0 q.graph.0
          (cell_at-left l r (length vs) (omega (arith, p.size)) ∙ p.graph.2)
          (cell_at-right l r (columns_in Each vs + length ws) (length ws) (ap (λ k. k + length ws) (sym p.size)) ∙ q.graph.2)

  pub join_split : (mode : Mode) (g : Option Term) → IsIn d mode g → (l r : Row) → IsRowOf d mode vs l → IsRowOf d mode ws r →
      (joined mode (l ++ r) && in_graph mode g (l ++ r)) ≡ ((belongs mode (length vs) g l && belongs mode (length ws) g r) && passing mode (l ++ r))
  join_split Default g h l r p q = Prim.rw (joined_is Default (l ++ r)) (through (vars_agree Default (l ++ r)) true (rest_holds (l ++ r)))
  join_split (InGraph j) g h l r p q = Prim.rw (joined_is (InGraph j) (l ++ r)) (through (vars_agree (InGraph j) (l ++ r)) true (rest_holds (l ++ r)))
  join_split Each None h l r p q = let e : None ≡ Some h.0 = h.1 in cc
  join_split Each (Some i) h l r p q =
      Prim.rw (joined_is Each (l ++ r), both_graphs l r p q, hidden_found (length (each_once (vs ++ ws))) i p.graph.0 (project_merged Each vs ws (l ++ r)) (hidden_joined l r p r), hidden_found (length vs) i p.graph.0 l p.graph.2, hidden_found (length ws) i q.graph.0 r q.graph.2)
      (through_graph (vars_agree Each (l ++ r)) (rest_holds (l ++ r)) i p.graph.0 q.graph.0 (term_eq i p.graph.0) refl)

  pub join_near : (mode : Mode) (g : Option Term) → IsIn d mode g → (l r : Row) → IsRowOf d mode vs l → IsRowOf d mode ws r → belongs mode (length vs) g l ≡ true →
      joined mode (l ++ r) ≡ (belongs mode (length ws) g r && passing mode (l ++ r))
  join_near Default g h l r p q e = Prim.rw (joined_is Default (l ++ r)) (near (vars_agree Default (l ++ r)) true (rest_holds (l ++ r)))
  join_near (InGraph j) g h l r p q e = Prim.rw (joined_is (InGraph j) (l ++ r)) (near (vars_agree (InGraph j) (l ++ r)) true (rest_holds (l ++ r)))
  join_near Each None h l r p q e = let e : None ≡ Some h.0 = h.1 in cc
  join_near Each (Some i) h l r p q e =
      Prim.rw (joined_is Each (l ++ r), both_graphs l r p q, hidden_found (length ws) i q.graph.0 r q.graph.2)
      (near_graph (vars_agree Each (l ++ r)) (rest_holds (l ++ r)) i p.graph.0 q.graph.0 (sym (hidden_found (length vs) i p.graph.0 l p.graph.2) ∙ e))

  pub join_kept : (mode : Mode) (g : Option Term) → IsIn d mode g → (m : ℕ) (l : Row) → IsRowOf d mode vs l → in_graph mode g (l ++ replicate m cell.Null) ≡ belongs mode (length vs) g l
  join_kept Default g h m l p = refl
  join_kept (InGraph j) g h m l p = refl
  join_kept Each None h m l p = let e : None ≡ Some h.0 = h.1 in cc
  join_kept Each (Some i) h m l p = hidden_found (length (each_once (vs ++ ws))) i p.graph.0 (project_merged Each vs ws (l ++ replicate m cell.Null)) (hidden_joined l l p (replicate m cell.Null)) ∙ sym (hidden_found (length vs) i p.graph.0 l p.graph.2)
