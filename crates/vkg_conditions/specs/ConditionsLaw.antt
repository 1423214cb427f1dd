-- Each step makes a condition simpler.
use Rattle.std.proofs.Common.{◌≡◌, ◌∙◌, ◌+◌, ◌≤◌, Bool, true, false, not, List, [], ◌∷◌, map, refl, sym, ap, subst, arith}
use Rattle.std.specs.Prelude.{Some, fold, option_map}
use Rattle.std.specs.Bool.{then_some}
use Rattle.std.specs.List.{list_any}
use Rattle.std.proofs.lemmas.Option.{same_Some}
use Rattle.vkg_lists.proofs.Onto.{map_given}
use Rattle.vkg_lists.proofs.Results.{then_given}
use Rattle.vkg_cells.specs.declared.cell.Cell.{Cell}
use Rattle.vkg_cells.specs.declared.cell.Cell.TheVariants as cell
use Rattle.vkg_cells.specs.declared.cell.SqlType.{SqlType}
use Rattle.vkg_cells.specs.declared.cell.SqlType.TheVariants as kind
use Rattle.vkg_schema.specs.Rows.{Row}
use Rattle.vkg_values.specs.Logic.{and3, not3, or3}
use Rattle.vkg_expr.specs.Expr.{Expr, Exprs, Const, Not, And, Or, Nil, More, each, exprs}
use Rattle.vkg_expr.specs.Logic.{and_of, or_of, truth_const}
use Rattle.vkg_expr.specs.Typing.{fits, is_one, kind_of}
use Rattle.vkg_expr.specs.Value.{truth_cell, truth_of, value_of}
use Rattle.vkg_expr.proofs.ReadBack.{truth_back}
use Rattle.vkg_expr.proofs.TypedParts.{one_is}
use Rattle.vkg_expr.proofs.ValueFits.{value-fits}
use Rattle.vkg_rules.specs.Measure.{equalities, equalities_each, size, sizes}
use Rattle.vkg_conditions.specs.Conditions.{deciding, flat, flattened, if_so, is_and, is_or, is_truth, members, negated, neutral, repeated, spread, twice_negated, without_first, without_repeat}
use Rattle.vkg_conditions.specs.Gathered.{Truth, decided}
use Rattle.vkg_conditions.specs.Junctions.{AreTruths, IsJunction, IsTruth, Simpler, and_joins, kind-make, or_joins, simpler, size-make, truth_on, truths-make, value-make, value-of}
use Rattle.vkg_conditions.specs.MembersLaw.{Fewer, first-dropped, repeat-dropped, size_positive, spread-fewer}

const_truth : (b : Bool) (e : Expr) (row : Row) → is_truth b e ≡ true → truth_on row e ≡ Some b
const_truth true (Const (cell.Bool true) k) row h = refl
const_truth true (Const (cell.Bool false) k) row h = cc
const_truth false (Const (cell.Bool true) k) row h = cc
const_truth false (Const (cell.Bool false) k) row h = refl
const_truth true _ row h = cc
const_truth false _ row h = cc

pub if_so-given : (b : Bool) (e d : Expr) → if_so b e ≡ Some d → (b ≡ true) × (e ≡ d)
if_so-given true e d h = (refl, same_Some e d h)
if_so-given false e d h = cc

some_member : (test : Expr → Bool) (es : Exprs) → list_any test (each es) ≡ true → 1 ≤ sizes es
some_member test Nil h = cc
some_member test (More e es) h = let p = size_positive e in omega (arith, p)

module _ (make : Exprs → Expr) (of : List Expr → Expr) (op : Truth → Truth → Truth) (unit zero : Bool) (is : IsJunction make of op unit zero) where
  pub decided-simpler : (ks : List SqlType) (k : SqlType) (es : Exprs) → kind_of (make es) ks ≡ Some k → list_any (is_truth zero) (each es) ≡ true → Simpler ks (make es) (truth_const zero)
  decided-simpler ks k es t h =
      let truths = truths-make make of op unit zero is ks k es t in
      let a = size-make make of op unit zero is es in let b = some_member (is_truth zero) es h in
      record {
        same = record {
          kind_kept = sym (kind-make make of op unit zero is ks es truths);
          value = λ row w.
              ap truth_cell (sym (decided op (Some unit) (Some zero) is.gathers (truth_on row) (is_truth zero) (λ e g. const_truth zero e row g) (each es) h))
              ∙ sym (value-make make of op unit zero is es row);
        };
        less = omega (arith, a, b);
        fewer = omega arith;
      }

  by-fewer : (ks : List SqlType) (k : SqlType) (es : Exprs) (ys : List Expr) → kind_of (make es) ks ≡ Some k → Fewer op unit (each es) ys → Simpler ks (make es) (of ys)
  by-fewer ks k es ys t f = simpler make of op unit zero is ks k es ys t (f.truths ks) (f.light ks) f.same

  pub neutral-simpler : (ks : List SqlType) (k : SqlType) (es : Exprs) (d : Expr) → kind_of (make es) ks ≡ Some k → option_map of (without_first (is_truth unit) (each es)) ≡ Some d → Simpler ks (make es) d
  neutral-simpler ks k es d t h =
      let m = map_given of (without_first (is_truth unit) (each es)) d h in
      subst (Simpler ks (make es)) m.2
      (by-fewer ks k es m.0 t (first-dropped make of op unit zero is (is_truth unit) (λ e row g. const_truth unit e row g) (each es) m.0 m.1))

  pub repeated-simpler : (ks : List SqlType) (k : SqlType) (es : Exprs) (d : Expr) → kind_of (make es) ks ≡ Some k → option_map of (without_repeat [] (each es)) ≡ Some d → Simpler ks (make es) d
  repeated-simpler ks k es d t h =
      let m = map_given of (without_repeat [] (each es)) d h in
      subst (Simpler ks (make es)) m.2 (by-fewer ks k es m.0 t (repeat-dropped make of op unit zero is (each es) m.0 m.1))

  -- of none, of one
  pub none-simpler : (ks : List SqlType) → Simpler ks (make Nil) (of [])
  none-simpler ks =
      let a = ap size is.of_none in let b = is.size_none in let c = ap (equalities ks) is.of_none in
      record {
        same = record {
          kind_kept = ap (λ e. kind_of e ks) is.of_none ∙ sym (is.kind_is Nil ks);
          value = λ row w. ap (λ e. value_of e row) is.of_none ∙ sym (is.value Nil row);
        };
        less = omega (arith, a, b);
        fewer = omega (arith, c);
      }

  pub one-simpler : (ks : List SqlType) (k : SqlType) (e : Expr) → kind_of (make (More e Nil)) ks ≡ Some k → Simpler ks (make (More e Nil)) (of (e ∷ []))
  one-simpler ks k e t =
      let h = truths-make make of op unit zero is ks k (More e Nil) t in
      let a = ap size (is.of_one e) in let b = is.size_more e Nil in let c = ap (equalities ks) (is.of_one e) in let d = is.equalities_are ks (More e Nil) in
      record {
        same = record {
          kind_kept = ap (λ x. kind_of x ks) (is.of_one e) ∙ h.0 ∙ sym (kind-make make of op unit zero is ks (More e Nil) h);
          value = λ row w. value-of make of op unit zero is ks (e ∷ []) row w h ∙ sym (value-make make of op unit zero is (More e Nil) row);
        };
        less = omega (arith, a, b);
        fewer = omega (arith, c, d);
      }

  module _ (nested : Expr → Bool)
      (truths : (ks : List SqlType) (e : Expr) → nested e ≡ true → IsTruth ks e → AreTruths ks (members e))
      (lighter : (ks : List SqlType) (e : Expr) → nested e ≡ true → (1 + sizes (exprs (members e)) ≤ size e) × (equalities_each ks (exprs (members e)) ≤ equalities ks e))
      (gathers : (e : Expr) (row : Row) → nested e ≡ true → truth_on row e ≡ fold op (Some unit) (map (truth_on row) (members e))) where
    pub flat-simpler : (ks : List SqlType) (k : SqlType) (es : Exprs) (d : Expr) → kind_of (make es) ks ≡ Some k → flattened of nested (each es) ≡ Some d → Simpler ks (make es) d
    flat-simpler ks k Nil d t h = subst (Simpler ks (make Nil)) (same_Some (of []) d h) (none-simpler ks)
    flat-simpler ks k (More e Nil) d t h = subst (Simpler ks (make (More e Nil))) (same_Some (of (e ∷ [])) d h) (one-simpler ks k e t)
    flat-simpler ks k (More e (More f es)) d t h =
        let all = More e (More f es) in
        let m = map_given of (spread nested (each all)) d h in
        subst (Simpler ks (make all)) m.2 (by-fewer ks k all m.0 t (spread-fewer make of op unit zero is nested truths lighter gathers (each all) m.0 m.1))

-- ---- an And in an And, an Or in an Or

and-truths : (ks : List SqlType) (e : Expr) → is_and e ≡ true → IsTruth ks e → AreTruths ks (members e)
and-truths ks (And es) h t = truths-make And and_of and3 true false and_joins ks kind.Bool es t
and-truths ks _ h t = cc

or-truths : (ks : List SqlType) (e : Expr) → is_or e ≡ true → IsTruth ks e → AreTruths ks (members e)
or-truths ks (Or es) h t = truths-make Or or_of or3 false true or_joins ks kind.Bool es t
or-truths ks _ h t = cc

pub each-sizes : (es : Exprs) → sizes (exprs (each es)) ≡ sizes es
each-sizes Nil = refl
each-sizes (More e es) = ap (λ n. size e + n) (each-sizes es)

pub each-equalities : (ks : List SqlType) (es : Exprs) → equalities_each ks (exprs (each es)) ≡ equalities_each ks es
each-equalities ks Nil = refl
each-equalities ks (More e es) = ap (λ n. equalities ks e + n) (each-equalities ks es)

and-lighter : (ks : List SqlType) (e : Expr) → is_and e ≡ true → (1 + sizes (exprs (members e)) ≤ size e) × (equalities_each ks (exprs (members e)) ≤ equalities ks e)
and-lighter ks (And es) h =
    let a = size-make And and_of and3 true false and_joins es in let b = each-sizes es in let c = each-equalities ks es in (omega (arith, a, b), omega (arith, c))
and-lighter ks _ h = cc

or-lighter : (ks : List SqlType) (e : Expr) → is_or e ≡ true → (1 + sizes (exprs (members e)) ≤ size e) × (equalities_each ks (exprs (members e)) ≤ equalities ks e)
or-lighter ks (Or es) h =
    let a = size-make Or or_of or3 false true or_joins es in let b = each-sizes es in let c = each-equalities ks es in (omega (arith, a, b), omega (arith, c))
or-lighter ks _ h = cc

and-gathers : (e : Expr) (row : Row) → is_and e ≡ true → truth_on row e ≡ fold and3 (Some true) (map (truth_on row) (members e))
and-gathers (And es) row h = ap truth_of (value-make And and_of and3 true false and_joins es row) ∙ truth_back _
and-gathers _ row h = cc

or-gathers : (e : Expr) (row : Row) → is_or e ≡ true → truth_on row e ≡ fold or3 (Some false) (map (truth_on row) (members e))
or-gathers (Or es) row h = ap truth_of (value-make Or or_of or3 false true or_joins es row) ∙ truth_back _
or-gathers _ row h = cc

-- ---- the steps

pub deciding-simpler : (ks : List SqlType) (e d : Expr) (k : SqlType) → kind_of e ks ≡ Some k → deciding e ≡ Some d → Simpler ks e d
deciding-simpler ks (And es) d k t h =
    let g = if_so-given (list_any (is_truth false) (each es)) (truth_const false) d h in
    subst (Simpler ks (And es)) g.1 (decided-simpler And and_of and3 true false and_joins ks k es t g.0)
deciding-simpler ks (Or es) d k t h =
    let g = if_so-given (list_any (is_truth true) (each es)) (truth_const true) d h in
    subst (Simpler ks (Or es)) g.1 (decided-simpler Or or_of or3 false true or_joins ks k es t g.0)
deciding-simpler ks _ d k t h = cc

pub neutral-step : (ks : List SqlType) (e d : Expr) (k : SqlType) → kind_of e ks ≡ Some k → neutral e ≡ Some d → Simpler ks e d
neutral-step ks (And es) d k t h = neutral-simpler And and_of and3 true false and_joins ks k es d t h
neutral-step ks (Or es) d k t h = neutral-simpler Or or_of or3 false true or_joins ks k es d t h
neutral-step ks _ d k t h = cc

pub flat-step : (ks : List SqlType) (e d : Expr) (k : SqlType) → kind_of e ks ≡ Some k → flat e ≡ Some d → Simpler ks e d
flat-step ks (And es) d k t h = flat-simpler And and_of and3 true false and_joins is_and and-truths and-lighter and-gathers ks k es d t h
flat-step ks (Or es) d k t h = flat-simpler Or or_of or3 false true or_joins is_or or-truths or-lighter or-gathers ks k es d t h
flat-step ks _ d k t h = cc

pub repeated-step : (ks : List SqlType) (e d : Expr) (k : SqlType) → kind_of e ks ≡ Some k → repeated e ≡ Some d → Simpler ks e d
repeated-step ks (And es) d k t h = repeated-simpler And and_of and3 true false and_joins ks k es d t h
repeated-step ks (Or es) d k t h = repeated-simpler Or or_of or3 false true or_joins ks k es d t h
repeated-step ks _ d k t h = cc

-- a negation is a truth over a truth
not-parts : (ks : List SqlType) (e : Expr) (k : SqlType) → kind_of (Not e) ks ≡ Some k → (kind_of e ks ≡ Some kind.Bool) × (kind_of (Not e) ks ≡ Some kind.Bool)
not-parts ks e k t =
    let g = then_given (is_one kind.Bool (kind_of e ks)) kind.Bool k t in
    (one_is kind.Bool (kind_of e ks) g.0, ap (λ b. then_some b kind.Bool) g.0)

twice-not : (c : Cell) → fits kind.Bool c ≡ true → c ≡ truth_cell (not3 (truth_of (truth_cell (not3 (truth_of c)))))
twice-not cell.Null h = refl
twice-not (cell.Bool true) h = refl
twice-not (cell.Bool false) h = refl
twice-not _ h = cc

twice-simpler : (ks : List SqlType) (e : Expr) (k : SqlType) → kind_of (Not (Not e)) ks ≡ Some k → Simpler ks (Not (Not e)) e
twice-simpler ks e k t =
    let outer = not-parts ks (Not e) k t in
    let inner = not-parts ks e kind.Bool outer.0 in
    record {
      same = record {
        kind_kept = inner.0 ∙ sym outer.1;
        value = λ row w. twice-not (value_of e row) (value-fits e ks kind.Bool row w inner.0);
      };
      less = omega arith;
      fewer = omega arith;
    }

pub twice-step : (ks : List SqlType) (e d : Expr) (k : SqlType) → kind_of e ks ≡ Some k → twice_negated e ≡ Some d → Simpler ks e d
twice-step ks (Not (Not e)) d k t h = subst (Simpler ks (Not (Not e))) (same_Some e d h) (twice-simpler ks e k t)
twice-step ks _ d k t h = cc

truth-simpler : (ks : List SqlType) (p : Bool) (l k : SqlType) → kind_of (Not (Const (cell.Bool p) l)) ks ≡ Some k → Simpler ks (Not (Const (cell.Bool p) l)) (truth_const (not p))
truth-simpler ks p l k t = record {
  same = record { kind_kept = sym (not-parts ks (Const (cell.Bool p) l) k t).1; value = λ row w. refl };
  less = omega arith;
  fewer = omega arith;
}

null-simpler : (ks : List SqlType) (l k : SqlType) → kind_of (Not (Const cell.Null l)) ks ≡ Some k → Simpler ks (Not (Const cell.Null l)) (Const cell.Null l)
null-simpler ks l k t =
    let g = not-parts ks (Const cell.Null l) k t in
    record { same = record { kind_kept = g.0 ∙ sym g.1; value = λ row w. refl }; less = omega arith; fewer = omega arith }

pub negated-step : (ks : List SqlType) (e d : Expr) (k : SqlType) → kind_of e ks ≡ Some k → negated e ≡ Some d → Simpler ks e d
negated-step ks (Not (Const (cell.Bool p) l)) d k t h = subst (Simpler ks (Not (Const (cell.Bool p) l))) (same_Some (truth_const (not p)) d h) (truth-simpler ks p l k t)
negated-step ks (Not (Const cell.Null l)) d k t h = subst (Simpler ks (Not (Const cell.Null l))) (same_Some (Const cell.Null l) d h) (null-simpler ks l k t)
negated-step ks _ d k t h = cc
