-- MINUS: its rows stand for its solutions, if those of its parts do.
use Rattle.std.proofs.Common.{◌≡◌, ℕ, ◌+◌, ◌≤◌, Bool, true, false, List, [], ◌∷◌, ◌++◌, map, length, refl, sym, ap, ◌∙◌, arith, true≢false}
use Rattle.std.proofs.Math.Bool.{and-false, and-true, or-false, or-true}
use Rattle.std.specs.Prelude.{Option, Some, None, not, ◌&&◌, ◌||◌, filter, nat_eq, Contains, if◌then◌else◌}
use Rattle.std.specs.List.{list_all, list_any, AllByRecursion as Every, range_with_len}
use Rattle.std.specs.List.Sorted.{IsPermutation}
use Rattle.std.proofs.lemmas.List.Folds.{list_all-append}
use Rattle.std.proofs.lemmas.List.Sorted.{IsPermutation-trans}
use Rattle.std.proofs.lemmas.Map.Made.{is_member-Decides}
use Rattle.vkg_lists.proofs.Bags.{bag_same, bag_filter_agree}
use Rattle.vkg_lists.proofs.Bools.{and_parts, same_truth}
use Rattle.vkg_lists.proofs.Counts.{eq_itself, eq_same}
use Rattle.vkg_lists.proofs.Members.{Contains-from_filter, recursion_from_each}
use Rattle.vkg_lists.proofs.Positions.{any_from_member}
use Rattle.vkg_lists.proofs.Tests.{nat_test}
use Rattle.vkg_lists.proofs.Walks.{list_any-map}
use Rattle.vkg_terms.specs.declared.term.Term.{Term}
use Rattle.vkg_terms.specs.Same.{term_eq}
use Rattle.vkg_terms.proofs.SameLemmas.{terms_apart}
use Rattle.vkg_cells.specs.declared.cell.Cell.{Cell}
use Rattle.vkg_cells.specs.declared.cell.Cell.TheVariants as cell
use Rattle.vkg_schema.specs.Rows.{is_known_true, is_null, Row}
use Rattle.vkg_values.specs.Logic.{not3}
use Rattle.vkg_algebra.specs.Solutions.{Solution, both_bound, compatible, minus, shares}
use Rattle.vkg_algebra.specs.Evaluation.{Dataset}
use Rattle.vkg_algebra.specs.Visible.{has}
use Rattle.vkg_expr.specs.Expr.{Expr, Col, IsNull, Not, Same, exprs}
use Rattle.vkg_expr.specs.Logic.{and_of, or_of}
use Rattle.vkg_expr.specs.Value.{value_of, term_of, term_cell, truth_of, truth_cell, holds}
use Rattle.vkg_expr.proofs.Conjuncts.{each_exprs, holds-and_of, holds-Or}
use Rattle.vkg_plan.specs.Rows.{alone_rows, is_alone}
use Rattle.vkg_unfolded.specs.declared.mode.Mode.{Mode}
use Rattle.vkg_unfolded.specs.declared.mode.Mode.TheVariants.{Default, InGraph, Each}
use Rattle.vkg_unfolded.specs.Unfolded.{both_there, columns_in, if_each, left_column, overlap, right_column, visible_column}
use Rattle.vkg_unfolded.specs.StandsFor.{IsIn, belongs, term_in, solution_of, solutions_of}
use Rattle.vkg_answers.proofs.Agreement.{agreements, has-upto}
use Rattle.vkg_answers.proofs.Modes.{IsRowOf, both_graphs, hidden_found, size_enough}
use Rattle.vkg_answers.proofs.Reading.{AreBelow, AreTermCells, has-filter, read, read_left, read_none, read_right, read_typed}
use Rattle.vkg_answers.proofs.Splits.{alone_split}
use Rattle.vkg_answers.proofs.Steps.{Stands, list_all-permutation, vars_compatible}

-- ---- a variable that is bound in both

there : Cell → Bool
there c = is_known_true (truth_of (truth_cell (not3 (truth_of (cell.Bool (is_null c))))))

both_terms : (o p : Option Term) → (there (term_cell o) && (there (term_cell p) && true)) ≡ both_bound o p
unfolding there
both_terms None None = refl
both_terms None (Some u) = refl
both_terms (Some t) None = refl
both_terms (Some t) (Some u) = refl

holds-both : (a b : Expr) (row : Row) (o p : Option Term) → value_of a row ≡ term_cell o → value_of b row ≡ term_cell p → holds (and_of (Not (IsNull a) ∷ Not (IsNull b) ∷ [])) row ≡ both_bound o p
unfolding there
holds-both a b row o p e f = holds-and_of row (Not (IsNull a) ∷ Not (IsNull b) ∷ []) ∙ (λ i. there (e i) && (there (f i) && true)) ∙ both_terms o p

holds-or_of : (row : Row) (cs : List Expr) → holds (or_of cs) row ≡ list_any (λ c. holds c row) cs
holds-or_of row [] = refl
holds-or_of row (c ∷ []) = sym (or-false (holds c row))
holds-or_of row (c ∷ d ∷ cs) = holds-Or row (exprs (c ∷ d ∷ cs)) ∙ ap (λ es. list_any (λ x. holds x row) es) (each_exprs (c ∷ d ∷ cs))

shares-map : (f g : ℕ → Option Term) (us : List ℕ) → shares (map f us) (map g us) ≡ list_any (λ v. both_bound (f v) (g v)) us
shares-map f g [] = refl
shares-map f g (u ∷ us) = ap (λ b. both_bound (f u) (g u) || b) (shares-map f g us)

none_left : (p : Option Term) → both_bound None p ≡ false
none_left None = refl
none_left (Some u) = refl

none_right : (o : Option Term) → both_bound o None ≡ false
none_right None = refl
none_right (Some t) = refl

any_elim : (p : ℕ → Bool) (vs : List ℕ) → list_any p vs ≡ true → (v : ℕ) × (has vs v ≡ true) × (p v ≡ true)
any_elim p [] h = absurd (true≢false (sym h))
any_elim p (v ∷ vs) h = of (λ k. any_elim p vs k) (p v) refl h
  where
    of : (list_any p vs ≡ true → (w : ℕ) × (has vs w ≡ true) × (p w ≡ true)) → (b : Bool) → p v ≡ b → (b || list_any p vs) ≡ true → (w : ℕ) × (has (v ∷ vs) w ≡ true) × (p w ≡ true)
    of more true e k = (v, ap (λ b. b || has vs v) (eq_itself nat_test v), e)
    of more false e k = let r = more k in (r.0, ap (λ b. nat_eq r.0 v || b) r.1 ∙ or-true (nat_eq r.0 v), r.2)

any_intro : (p : ℕ → Bool) (vs : List ℕ) (v : ℕ) → has vs v ≡ true → p v ≡ true → list_any p vs ≡ true
any_intro p vs v h e = any_from_member p vs v ((is_member-Decides nat_test.decides vs v).0 h) e

module _ (n : ℕ) (vs ws : List ℕ) (l r : Row) where
  abbrev both : ℕ → Bool
  both v = both_bound (term_in (visible_column vs) l v) (term_in (visible_column ws) r v)

  lacks_left : (v : ℕ) → has vs v ≡ false → both v ≡ false
  lacks_left v e = ap (λ c. both_bound (term_of c) (term_in (visible_column ws) r v)) (read_none vs l v e) ∙ none_left (term_in (visible_column ws) r v)

  lacks_right : (v : ℕ) → has ws v ≡ false → both v ≡ false
  lacks_right v e = ap (λ c. both_bound (term_in (visible_column vs) l v) (term_of c)) (read_none ws r v e) ∙ none_right (term_in (visible_column vs) l v)

  -- where no variable is in both, none is shared
  pub apart_shares : list_any (has ws) vs ≡ false → shares (solution_of n vs l) (solution_of n ws r) ≡ false
  apart_shares h = shares-map (term_in (visible_column vs) l) (term_in (visible_column ws) r) (range_with_len 0 n) ∙ none_of (range_with_len 0 n)
    where
      at : (v : ℕ) (a : Bool) → has vs v ≡ a → (b : Bool) → has ws v ≡ b → both v ≡ false
      at v true e true f = absurd (true≢false (sym (any_intro (has ws) vs v e f) ∙ h))
      at v true e false f = lacks_right v f
      at v false e b f = lacks_left v e

      none_of : (us : List ℕ) → list_any both us ≡ false
      none_of [] = refl
      none_of (u ∷ us) = ap (λ b. b || list_any both us) (at u (has vs u) refl (has ws u) refl) ∙ none_of us

  -- the last condition of the plan is that a variable is shared
  pub bound_shares : (mode : Mode) → AreBelow n vs → length l ≡ columns_in mode vs → length vs ≤ length l → AreTermCells l → AreTermCells r →
      holds (or_of (map (both_there mode vs ws) (filter (has ws) vs))) (l ++ r) ≡ shares (solution_of n vs l) (solution_of n ws r)
  bound_shares mode below m k p q =
      holds-or_of (l ++ r) (map (both_there mode vs ws) (filter (has ws) vs))
      ∙ list_any-map (λ c. holds c (l ++ r)) (both_there mode vs ws) (filter (has ws) vs)
      ∙ same_truth (list_any test (filter (has ws) vs)) (list_any both (range_with_len 0 n)) onto back
      ∙ sym (shares-map (term_in (visible_column vs) l) (term_in (visible_column ws) r) (range_with_len 0 n))
    where
      test : ℕ → Bool
      test v = holds (both_there mode vs ws v) (l ++ r)

      one : (v : ℕ) → has vs v ≡ true → has ws v ≡ true → test v ≡ both v
      one v e f = holds-both (left_column vs v) (right_column mode vs ws v) (l ++ r) (term_of (read vs l v)) (term_of (read ws r v))
          (read_left vs l r v k e ∙ (read_typed vs l p v).0) (read_right mode vs ws l r v m f ∙ (read_typed ws r q v).0)

      onto : list_any test (filter (has ws) vs) ≡ true → list_any both (range_with_len 0 n) ≡ true
      onto h =
          let x = any_elim test (filter (has ws) vs) h in
          let b = and_parts (has vs x.0) (has ws x.0) (sym (has-filter (has ws) vs x.0) ∙ x.1) in
          any_intro both (range_with_len 0 n) x.0 (has-upto n 0 x.0 x.0 (below x.0 b.0) (omega arith)) (sym (one x.0 b.0 b.1) ∙ x.2)

      back : list_any both (range_with_len 0 n) ≡ true → list_any test (filter (has ws) vs) ≡ true
      back h = let x = any_elim both (range_with_len 0 n) h in of x.0 (has vs x.0) refl (has ws x.0) refl x.2
        where
          of : (v : ℕ) (a : Bool) → has vs v ≡ a → (b : Bool) → has ws v ≡ b → both v ≡ true → list_any test (filter (has ws) vs) ≡ true
          of v true e true f g = any_intro test (filter (has ws) vs) v (has-filter (has ws) vs v ∙ (λ i. e i && f i)) (one v e f ∙ g)
          of v true e false f g = absurd (true≢false (sym g ∙ lacks_right v f))
          of v false e b f g = absurd (true≢false (sym g ∙ lacks_left v e))

-- ---- the condition of the plan over the rows of a mode

aside : (a x : Bool) → (a && (x && true)) ≡ (a && x)
aside a x = ap (λ b. a && b) (and-true x)

after_graph : (c a x : Bool) → (((c && true) && a) && (x && true)) ≡ (c && (a && x))
after_graph true a x = aside a x
after_graph false a x = refl

same_graph : (a x : Bool) (i t u : Term) → term_eq i t ≡ true → (((term_eq t u && true) && a) && (x && true)) ≡ (term_eq i u && (a && x))
same_graph a x i t u e = let f : i ≡ t = eq_same terms_apart i t e in Prim.rw f (after_graph (term_eq t u) a x)

module _ (vs ws : List ℕ) where
  abbrev some_bound : Mode → Expr
  some_bound mode = or_of (map (both_there mode vs ws) (filter (has ws) vs))

  abbrev graphs_same : Mode → List Expr
  graphs_same mode = if_each mode (Same (Col (length vs)) (Col (columns_in mode vs + length ws)))

  abbrev met : Mode → Row → Bool
  met mode row = holds (and_of (overlap mode vs ws)) row

  abbrev vars_agree : Mode → Row → Bool
  vars_agree mode row = list_all (λ c. holds c row) (agreements mode vs ws)

  abbrev meets : Mode → Row → Bool
  meets mode row = vars_agree mode row && holds (some_bound mode) row

  met_is : (mode : Mode) (row : Row) → met mode row ≡ ((list_all (λ c. holds c row) (graphs_same mode) && vars_agree mode row) && (holds (some_bound mode) row && true))
  met_is mode row =
      holds-and_of row (overlap mode vs ws)
      ∙ list_all-append (λ c. holds c row) (graphs_same mode ++ agreements mode vs ws) (some_bound mode ∷ [])
      ∙ ap (λ b. b && (holds (some_bound mode) row && true)) (list_all-append (λ c. holds c row) (graphs_same mode) (agreements mode vs ws))

  module _ (d : Dataset) where
    meets_near : (mode : Mode) (g : Option Term) → IsIn d mode g → (l r : Row) → IsRowOf d mode vs l → IsRowOf d mode ws r → belongs mode (length vs) g l ≡ true →
        met mode (l ++ r) ≡ (belongs mode (length ws) g r && meets mode (l ++ r))
    meets_near Default g h l r p q e = met_is Default (l ++ r) ∙ aside (vars_agree Default (l ++ r)) (holds (some_bound Default) (l ++ r))
    meets_near (InGraph j) g h l r p q e = met_is (InGraph j) (l ++ r) ∙ aside (vars_agree (InGraph j) (l ++ r)) (holds (some_bound (InGraph j)) (l ++ r))
    meets_near Each None h l r p q e = let e : None ≡ Some h.0 = h.1 in cc
    meets_near Each (Some i) h l r p q e =
        Prim.rw (met_is Each (l ++ r), both_graphs d vs ws [] l r p q, hidden_found (length ws) i q.graph.0 r q.graph.2)
        (same_graph (vars_agree Each (l ++ r)) (holds (some_bound Each) (l ++ r)) i p.graph.0 q.graph.0 (sym (hidden_found (length vs) i p.graph.0 l p.graph.2) ∙ e))

-- ---- rows without one that passes are the solutions without one that is compatible and shares a variable

module _ (P Q : Row → Type 0) (a b : Row → Solution) (pass : Row → Bool)
    (agrees : (l r : Row) → P l → Q r → pass (l ++ r) ≡ (compatible (a l) (b r) && shares (a l) (b r))) where
  none_meets : (l : Row) (rs : List Row) → P l → Every Q rs → is_alone pass rs l ≡ list_all (λ s. not (compatible (a l) s && shares (a l) s)) (map b rs)
  none_meets l [] p q = refl
  none_meets l (r ∷ rs) p q = Prim.rw (agrees l r p q.0, none_meets l rs p q.1) refl

  minus_rows : (ls rs : List Row) → Every P ls → Every Q rs → map a (filter (is_alone pass rs) ls) ≡ minus (map a ls) (map b rs)
  minus_rows [] rs p q = refl
  minus_rows (l ∷ ls) rs p q = Prim.rw (none_meets l rs p.0 q) (of (minus_rows ls rs p.1 q) (list_all (λ s. not (compatible (a l) s && shares (a l) s)) (map b rs)))
    where
      of : map a (filter (is_alone pass rs) ls) ≡ minus (map a ls) (map b rs) → (x : Bool) →
          map a (if x then l ∷ filter (is_alone pass rs) ls else filter (is_alone pass rs) ls) ≡ (if x then a l ∷ minus (map a ls) (map b rs) else minus (map a ls) (map b rs))
      of rest true = ap (λ ms. a l ∷ ms) rest
      of rest false = rest

module _ (a b : Row → Solution) (apart : (l r : Row) → shares (a l) (b r) ≡ false) where
  all_apart : (l : Row) (rs : List Row) → list_all (λ s. not (compatible (a l) s && shares (a l) s)) (map b rs) ≡ true
  all_apart l [] = refl
  all_apart l (r ∷ rs) = Prim.rw (apart l r, and-false (compatible (a l) (b r))) (all_apart l rs)

  minus_apart : (ls rs : List Row) → minus (map a ls) (map b rs) ≡ map a ls
  minus_apart [] rs = refl
  minus_apart (l ∷ ls) rs = Prim.rw (all_apart l rs) (ap (λ ms. a l ∷ ms) (minus_apart ls rs))

bag_minus : {ls ms rs ss : List Solution} → IsPermutation ls ms → IsPermutation rs ss → IsPermutation (minus ls rs) (minus ms ss)
bag_minus b c = bag_filter_agree (λ l. list_all-permutation (λ r. not (compatible l r && shares l r)) c) b

module _ (n : ℕ) (d : Dataset) (mode : Mode) (vs ws : List ℕ) (below : AreBelow n vs) (ls rs : List Row) (A B : Option Term → List Solution) (a : Stands n d mode vs ls A) (b : Stands n d mode ws rs B) where
  abbrev here : Option Term → List Row
  here g = filter (belongs mode (length vs) g) ls

  abbrev across : Option Term → List Row
  across g = filter (belongs mode (length ws) g) rs

  every_here : (g : Option Term) → Every (IsRowOf d mode vs) (here g)
  every_here g = recursion_from_each _ (filter (belongs mode (length vs) g) ls) (λ row c. a.are_rows row (Contains-from_filter (belongs mode (length vs) g) ls row c).0)

  every_across : (g : Option Term) → Every (IsRowOf d mode ws) (across g)
  every_across g = recursion_from_each _ (filter (belongs mode (length ws) g) rs) (λ row c. b.are_rows row (Contains-from_filter (belongs mode (length ws) g) rs row c).0)

  passes : (l r : Row) → IsRowOf d mode vs l → IsRowOf d mode ws r → meets vs ws mode (l ++ r) ≡ (compatible (solution_of n vs l) (solution_of n ws r) && shares (solution_of n vs l) (solution_of n ws r))
  passes l r p q = λ i. vars_compatible n d mode vs ws below l r p q i && bound_shares n vs ws l r mode below p.size (size_enough d mode vs l p) p.cells q.cells i

  anti_stands : Stands n d mode vs (alone_rows (holds (and_of (overlap mode vs ws))) ls rs) (λ g. minus (A g) (B g))
  anti_stands = record {
    are_rows = λ row c. a.are_rows row (Contains-from_filter (is_alone (met vs ws mode) rs) ls row c).0;
    bag = λ g h. IsPermutation-trans _ _ _ (bag_same (equal g h)) (bag_minus (a.bag g h) (b.bag g h));
  }
    where
      equal : (g : Option Term) → IsIn d mode g → solutions_of n vs (filter (belongs mode (length vs) g) (filter (is_alone (met vs ws mode) rs) ls)) ≡ minus (solutions_of n vs (here g)) (solutions_of n ws (across g))
      equal g h =
          ap (map (solution_of n vs)) (alone_split (IsRowOf d mode vs) (IsRowOf d mode ws) (belongs mode (length vs) g) (belongs mode (length ws) g) (meets vs ws mode) (met vs ws mode)
          (λ l r p q e. meets_near vs ws d mode g h l r p q e) ls rs (recursion_from_each _ ls a.are_rows) (recursion_from_each _ rs b.are_rows))
          ∙ minus_rows (IsRowOf d mode vs) (IsRowOf d mode ws) (solution_of n vs) (solution_of n ws) (meets vs ws mode) passes (here g) (across g) (every_here g) (every_across g)

  whole_stands : list_any (has ws) vs ≡ false → Stands n d mode vs ls (λ g. minus (A g) (B g))
  whole_stands e = record {
    are_rows = a.are_rows;
    bag = λ g h. IsPermutation-trans _ _ _ (bag_same (sym (minus_apart (solution_of n vs) (solution_of n ws) (λ l r. apart_shares n vs ws l r e) (here g) (across g)))) (bag_minus (a.bag g h) (b.bag g h));
  }

  pub minus_stands : Stands n d mode vs (if list_any (has ws) vs then alone_rows (holds (and_of (overlap mode vs ws))) ls rs else ls) (λ g. minus (A g) (B g))
  minus_stands = of (list_any (has ws) vs) refl
    where
      of : (x : Bool) → list_any (has ws) vs ≡ x → Stands n d mode vs (if x then alone_rows (holds (and_of (overlap mode vs ws))) ls rs else ls) (λ g. minus (A g) (B g))
      of true e = anti_stands
      of false e = whole_stands e
