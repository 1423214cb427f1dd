-- A conjunct that says of an expression that it is the same as itself says that it is known.
use Rattle.std.proofs.Common.{◌≡◌, ◌∙◌, inl, inr, ◌<◌, ◌≤◌, Bool, true, false, not, ◌&&◌, List, [], ◌∷◌, refl, sym, ap, subst, arith}
use Rattle.std.specs.Prelude.{Some, None, option_map}
use Rattle.std.specs.Bool.{then_some}
use Rattle.std.specs.List.{list_all}
use Rattle.vkg_lists.proofs.Bools.{and_parts}
use Rattle.vkg_lists.proofs.Counts.{eq_itself}
use Rattle.vkg_lists.proofs.Onto.{map_given}
use Rattle.vkg_lists.proofs.Texts.{bytes_test}
use Rattle.vkg_terms.proofs.SameLemmas.{term_itself}
use Rattle.vkg_cells.specs.declared.cell.Cell.{Cell}
use Rattle.vkg_cells.specs.declared.cell.Cell.TheVariants as cell
use Rattle.vkg_cells.specs.declared.cell.SqlType.{SqlType}
use Rattle.vkg_cells.specs.declared.cell.SqlType.TheVariants as kind
use Rattle.vkg_cells.specs.Order.{same}
use Rattle.vkg_schema.specs.Rows.{Row, is_known_true, is_null}
use Rattle.vkg_values.specs.Logic.{and3, not3}
use Rattle.vkg_expr.specs.Expr.{Expr, Same, IsNull, Not, And, each, exprs}
use Rattle.vkg_expr.specs.Laws.{FitsRow}
use Rattle.vkg_expr.specs.Logic.{and_of}
use Rattle.vkg_expr.specs.Strict.{is_strict}
use Rattle.vkg_expr.specs.Typing.{is_one, kind_of}
use Rattle.vkg_expr.specs.Value.{holds, truth_cell, truth_of, value_of}
use Rattle.vkg_expr.proofs.Conjuncts.{holds-and_of, holds-conjuncts}
use Rattle.vkg_expr.proofs.ReadBack.{truth_back}
use Rattle.vkg_expr.proofs.TypedParts.{equality_given}
use Rattle.vkg_rules.specs.Measure.{equalities_each, sizes}
use Rattle.vkg_conditions.specs.ConditionsLaw.{each-equalities, each-sizes, if_so-given}
use Rattle.vkg_conditions.specs.FirstPlace.{or_cases}
use Rattle.vkg_conditions.specs.Junctions.{AreTruths, IsTruth, and_joins, equalities-of, kind-of, size-make, size-of, truths-make}
use Rattle.vkg_conditions.specs.MembersLaw.{size_positive}
use Rattle.vkg_conditions.specs.NodesLaw.{IsBetter}
use Rattle.vkg_same.specs.SameExpr.{same_expr}
use Rattle.vkg_same.specs.SameExprLaw.{same_expr-is}
use Rattle.vkg_conditions.specs.SimplifyCondition.{first_conjunct, in_conjuncts, same_itself}

known-same : (c : Cell) → is_known_true (same c c) ≡ not (is_null c)
known-same cell.Null = refl
known-same (cell.Text s) = eq_itself bytes_test s
known-same (cell.Int s) = eq_itself bytes_test s
known-same (cell.Dec s) = eq_itself bytes_test s
known-same (cell.Bool true) = refl
known-same (cell.Bool false) = refl
known-same (cell.Date s) = eq_itself bytes_test s
known-same (cell.Stamp s) = eq_itself bytes_test s
known-same (cell.Bin s) = eq_itself bytes_test s
known-same (cell.Time s) = eq_itself bytes_test s
known-same (cell.Term t) = term_itself t

negation-known : (b : Bool) → is_known_true (truth_of (truth_cell (not3 (truth_of (cell.Bool b))))) ≡ not b
negation-known true = refl
negation-known false = refl

itself-holds : (a : Expr) (row : Row) → holds (Not (IsNull a)) row ≡ holds (Same a a) row
itself-holds a row =
    negation-known (is_null (value_of a row)) ∙ sym (known-same (value_of a row))
    ∙ sym (ap is_known_true (truth_back (same (value_of a row) (value_of a row))))

itself-better : (ks : List SqlType) (a b : Expr) → IsTruth ks (Same a b) → same_expr a b ≡ true → IsBetter ks (Same a b) (Not (IsNull a))
itself-better ks a b t h =
    let m = equality_given (kind_of a ks) (kind_of b ks) kind.Bool t in
    let p = size_positive b in
    record {
      truth = ap (λ k. then_some (is_one kind.Bool (option_map (λ l. kind.Bool) k)) kind.Bool) m.0.1;
      same = λ row w. itself-holds a row ∙ ap (λ z. holds (Same a z) row) (same_expr-is a b h);
      less = omega (arith, p);
      fewer = omega arith;
    }

conjunct-better : (ks : List SqlType) (c d : Expr) → IsTruth ks c → same_itself c ≡ Some d → IsBetter ks c d
conjunct-better ks (Same a b) d t h =
    let g = if_so-given (same_expr a b && is_strict a) (Not (IsNull a)) d h in
    subst (IsBetter ks (Same a b)) g.1 (itself-better ks a b t (and_parts (same_expr a b) (is_strict a) g.0).0)
conjunct-better ks _ d t h = cc

-- among the conjuncts
record AreBetter (ks : List SqlType) (cs ds : List Expr) : Type 0 where
  truths : AreTruths ks ds
  same : (row : Row) → FitsRow ks row → list_all (λ e. holds e row) ds ≡ list_all (λ e. holds e row) cs
  less : sizes (exprs ds) < sizes (exprs cs)
  fewer : equalities_each ks (exprs ds) ≤ equalities_each ks (exprs cs)

all-better : (ks : List SqlType) (cs ds : List Expr) → AreTruths ks cs → first_conjunct same_itself cs ≡ Some ds → AreBetter ks cs ds
all-better ks [] ds t h = cc
all-better ks (c ∷ cs) ds t h = elim (or_cases _ _ ds h) [
  | inl i ↦
      let m = map_given (λ d. d ∷ cs) (same_itself c) ds i in
      let b = conjunct-better ks c m.0 t.0 m.1 in let x = b.less in let y = b.fewer in
      subst (AreBetter ks (c ∷ cs)) m.2 (record {
        truths = (b.truth, t.1);
        same = λ row w. ap (λ z. z && list_all (λ e. holds e row) cs) (b.same row w);
        less = omega (arith, x);
        fewer = omega (arith, y);
      })
  | inr i ↦
      let m = map_given (λ es. c ∷ es) (first_conjunct same_itself cs) ds i in
      let b = all-better ks cs m.0 t.1 m.1 in let x = b.less in let y = b.fewer in
      subst (AreBetter ks (c ∷ cs)) m.2 (record {
        truths = (t.0, b.truths);
        same = λ row w. ap (λ z. holds c row && z) (b.same row w);
        less = omega (arith, x);
        fewer = omega (arith, y);
      })
]

-- a condition of one conjunct, and one of several
alone-better : (ks : List SqlType) (c d : Expr) → IsTruth ks c → option_map and_of (first_conjunct same_itself (c ∷ [])) ≡ Some d → IsBetter ks c d
alone-better ks c d t h =
    let m = map_given and_of (first_conjunct same_itself (c ∷ [])) d h in
    elim (or_cases (option_map (λ x. x ∷ []) (same_itself c)) None m.0 m.1) [
      | inl i ↦
          let n = map_given (λ x. x ∷ []) (same_itself c) m.0 i in
          subst (IsBetter ks c) (ap and_of n.2 ∙ m.2) (conjunct-better ks c n.0 t n.1)
      | inr i ↦ cc
    ]

several-better : (ks : List SqlType) (es : _) (d : Expr) → IsTruth ks (And es) → option_map and_of (first_conjunct same_itself (each es)) ≡ Some d → IsBetter ks (And es) d
several-better ks es d t h =
    let m = map_given and_of (first_conjunct same_itself (each es)) d h in
    let truths = truths-make And and_of and3 true false and_joins ks kind.Bool es t in
    let b = all-better ks (each es) m.0 truths m.1 in
    let u = size-of And and_of and3 true false and_joins m.0 in let v = b.less in let w = each-sizes es in let x = size-make And and_of and3 true false and_joins es in
    let p = equalities-of And and_of and3 true false and_joins ks m.0 in let q = b.fewer in let r = each-equalities ks es in
    subst (IsBetter ks (And es)) m.2 (record {
      truth = kind-of And and_of and3 true false and_joins ks m.0 b.truths;
      same = λ row fits. holds-and_of row m.0 ∙ b.same row fits ∙ sym (holds-conjuncts (And es) row);
      less = omega (arith, u, v, w, x);
      fewer = omega (arith, p, q, r);
    })

pub conjuncts-better : (ks : List SqlType) (c d : Expr) → in_conjuncts same_itself c ≡ Some d → IsTruth ks c → IsBetter ks c d
conjuncts-better ks (And es) d h t = several-better ks es d t h
conjuncts-better ks c d h t = alone-better ks c d t h
