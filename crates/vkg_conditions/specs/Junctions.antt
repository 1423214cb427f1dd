-- And and Or alike: what holds of a list of truths, gathered, when its members change.
use Rattle.std.proofs.Common.{◌≡◌, ◌∙◌, ◌+◌, ◌<◌, ◌≤◌, Bool, true, false, List, [], ◌∷◌, ◌++◌, map, refl, sym, ap, subst, arith}
use Rattle.std.specs.Prelude.{Some, fold}
use Rattle.std.specs.Bool.{then_some}
use Rattle.std.specs.List.{AllByRecursion}
use Rattle.vkg_lists.proofs.Bools.{and_parts, and_true}
use Rattle.vkg_lists.proofs.Results.{then_given}
use Rattle.vkg_cells.specs.declared.cell.Cell.{Cell}
use Rattle.vkg_cells.specs.declared.cell.Cell.TheVariants as cell
use Rattle.vkg_cells.specs.declared.cell.SqlType.{SqlType}
use Rattle.vkg_cells.specs.declared.cell.SqlType.TheVariants as kind
use Rattle.vkg_schema.specs.Rows.{Row}
use Rattle.vkg_values.specs.Logic.{and3, or3}
use Rattle.vkg_expr.specs.Expr.{Expr, Exprs, And, Or, Nil, More, each, exprs}
use Rattle.vkg_expr.specs.Laws.{FitsRow}
use Rattle.vkg_expr.specs.Logic.{and_of, or_of, truth_const}
use Rattle.vkg_expr.specs.Typing.{are_all, fits, is_one, kind_of, kinds_of}
use Rattle.vkg_expr.specs.Value.{truth_cell, truth_of, value_of, values_of}
use Rattle.vkg_expr.proofs.KindLists.{are_all-more}
use Rattle.vkg_expr.proofs.TypedParts.{one_is}
use Rattle.vkg_expr.proofs.ValueFits.{value-fits}
use Rattle.vkg_rules.specs.Measure.{equalities, equalities_each, size, sizes}
use Rattle.vkg_conditions.specs.Gathered.{IsGathering, Truth, and_gathers, or_gathers}
use Rattle.vkg_conditions.specs.SameAs.{SameOn}

-- a simpler expression: of the same kind and, on such rows, the same value, smaller, and with no more equalities of terms
pub record SimplerOn (On : Row → Type 0) (ks : List SqlType) (e d : Expr) : Type 0 where
  pub same : SameOn On ks e d
  pub less : size d < size e
  pub fewer : equalities ks d ≤ equalities ks e

-- the rows are all of the columns' kinds
abbrev pub Simpler : List SqlType → Expr → Expr → Type 0
Simpler ks = SimplerOn (FitsRow ks) ks

abbrev pub IsTruth : List SqlType → Expr → Type 0
IsTruth ks c = kind_of c ks ≡ Some kind.Bool

abbrev pub AreTruths : List SqlType → List Expr → Type 0
AreTruths ks = AllByRecursion (IsTruth ks)

-- the truth of an expression on a row
abbrev pub truth_on : Row → Expr → Truth
truth_on row e = truth_of (value_of e row)

-- And and Or, each with the way in which it gathers the truths of its members
pub record IsJunction (make : Exprs → Expr) (of : List Expr → Expr) (op : Truth → Truth → Truth) (unit zero : Bool) : Type 0 where
  pub gathers : IsGathering op (Some unit) (Some zero)
  pub value : (es : Exprs) (row : Row) → value_of (make es) row ≡ truth_cell (fold op (Some unit) (map truth_of (values_of es row)))
  pub kind_is : (es : Exprs) (ks : List SqlType) → kind_of (make es) ks ≡ then_some (are_all kind.Bool (kinds_of es ks)) kind.Bool
  pub size_none : size (make Nil) ≡ 2
  pub size_more : (e : Expr) (es : Exprs) → size (make (More e es)) ≡ 1 + sizes (More e es)
  pub equalities_are : (ks : List SqlType) (es : Exprs) → equalities ks (make es) ≡ equalities_each ks es
  pub of_none : of [] ≡ truth_const unit
  pub of_one : (c : Expr) → of (c ∷ []) ≡ c
  pub of_more : (c d : Expr) (cs : List Expr) → of (c ∷ d ∷ cs) ≡ make (exprs (c ∷ d ∷ cs))

pub and_joins : IsJunction And and_of and3 true false
and_joins = record {
  gathers = and_gathers;
  value = λ es row. refl;
  kind_is = λ es ks. refl;
  size_none = refl;
  size_more = λ e es. refl;
  equalities_are = λ ks es. refl;
  of_none = refl;
  of_one = λ c. refl;
  of_more = λ c d cs. refl;
}

pub or_joins : IsJunction Or or_of or3 false true
or_joins = record {
  gathers = or_gathers;
  value = λ es row. refl;
  kind_is = λ es ks. refl;
  size_none = refl;
  size_more = λ e es. refl;
  equalities_are = λ ks es. refl;
  of_none = refl;
  of_one = λ c. refl;
  of_more = λ c d cs. refl;
}

-- ---- lists of members

pub exprs_each : (es : Exprs) → exprs (each es) ≡ es
exprs_each Nil = refl
exprs_each (More e es) = ap (More e) (exprs_each es)

pub truths-on : (es : Exprs) (row : Row) → map truth_of (values_of es row) ≡ map (truth_on row) (each es)
truths-on Nil row = refl
truths-on (More e es) row = ap (λ ts. truth_on row e ∷ ts) (truths-on es row)

pub truths-kinds : (ks : List SqlType) (cs : List Expr) → AreTruths ks cs → are_all kind.Bool (kinds_of (exprs cs) ks) ≡ true
truths-kinds ks [] h = refl
truths-kinds ks (c ∷ cs) h = are_all-more kind.Bool (kind_of c ks) (kinds_of (exprs cs) ks) ∙ and_true _ _ (ap (is_one kind.Bool) h.0) (truths-kinds ks cs h.1)

pub kinds-truths : (ks : List SqlType) (es : Exprs) → are_all kind.Bool (kinds_of es ks) ≡ true → AreTruths ks (each es)
kinds-truths ks Nil h = tt
kinds-truths ks (More e es) h =
    let b = and_parts (is_one kind.Bool (kind_of e ks)) (are_all kind.Bool (kinds_of es ks)) (sym (are_all-more kind.Bool (kind_of e ks) (kinds_of es ks)) ∙ h) in
    (one_is kind.Bool (kind_of e ks) b.0, kinds-truths ks es b.1)

pub truths-append : (ks : List SqlType) (cs ds : List Expr) → AreTruths ks cs → AreTruths ks ds → AreTruths ks (cs ++ ds)
truths-append ks [] ds h k = k
truths-append ks (c ∷ cs) ds h k = (h.0, truths-append ks cs ds h.1 k)

-- a cell that is a truth or NULL is the cell of its truth
back : (c : Cell) → fits kind.Bool c ≡ true → truth_cell (truth_of c) ≡ c
back cell.Null h = refl
back (cell.Bool b) h = refl
back _ h = cc

-- how large lists of members are, beside each other
pub record IsLighter (ks : List SqlType) (xs ys : List Expr) : Type 0 where
  pub sizes_less : sizes (exprs ys) < sizes (exprs xs)
  pub no_more : equalities_each ks (exprs ys) ≤ equalities_each ks (exprs xs)

module _ (make : Exprs → Expr) (of : List Expr → Expr) (op : Truth → Truth → Truth) (unit zero : Bool) (is : IsJunction make of op unit zero) where
  abbrev pub together : Row → List Expr → Truth
  together row xs = fold op (Some unit) (map (truth_on row) xs)

  pub value-make : (es : Exprs) (row : Row) → value_of (make es) row ≡ truth_cell (together row (each es))
  value-make es row = is.value es row ∙ ap (λ ts. truth_cell (fold op (Some unit) ts)) (truths-on es row)

  pub truths-make : (ks : List SqlType) (k : SqlType) (es : Exprs) → kind_of (make es) ks ≡ Some k → AreTruths ks (each es)
  truths-make ks k es t = kinds-truths ks es (then_given (are_all kind.Bool (kinds_of es ks)) kind.Bool k (sym (is.kind_is es ks) ∙ t)).0

  pub kind-make : (ks : List SqlType) (es : Exprs) → AreTruths ks (each es) → kind_of (make es) ks ≡ Some kind.Bool
  kind-make ks es h = is.kind_is es ks ∙ ap (λ b. then_some b kind.Bool) (subst (λ x. are_all kind.Bool (kinds_of x ks) ≡ true) (exprs_each es) (truths-kinds ks (each es) h))

  pub kind-of : (ks : List SqlType) (xs : List Expr) → AreTruths ks xs → kind_of (of xs) ks ≡ Some kind.Bool
  kind-of ks [] h = ap (λ e. kind_of e ks) is.of_none
  kind-of ks (c ∷ []) h = ap (λ e. kind_of e ks) (is.of_one c) ∙ h.0
  kind-of ks (c ∷ d ∷ cs) h = ap (λ e. kind_of e ks) (is.of_more c d cs) ∙ is.kind_is (exprs (c ∷ d ∷ cs)) ks ∙ ap (λ b. then_some b kind.Bool) (truths-kinds ks (c ∷ d ∷ cs) h)

  pub value-of : (ks : List SqlType) (xs : List Expr) (row : Row) → FitsRow ks row → AreTruths ks xs → value_of (of xs) row ≡ truth_cell (together row xs)
  value-of ks [] row w h = ap (λ e. value_of e row) is.of_none
  value-of ks (c ∷ []) row w h =
      ap (λ e. value_of e row) (is.of_one c) ∙ sym (back (value_of c row) (value-fits c ks kind.Bool row w h.0)) ∙ ap truth_cell (sym (is.gathers.first_unit (truth_on row c)))
  value-of ks (c ∷ d ∷ cs) row w h =
      ap (λ e. value_of e row) (is.of_more c d cs) ∙ value-make (exprs (c ∷ d ∷ cs)) row ∙ ap (λ x. truth_cell (together row x)) (each-back (c ∷ d ∷ cs))
    where
      each-back : (xs : List Expr) → each (exprs xs) ≡ xs
      each-back [] = refl
      each-back (x ∷ xs) = ap (λ ys. x ∷ ys) (each-back xs)

  pub size-of : (xs : List Expr) → size (of xs) ≤ 1 + sizes (exprs xs)
  size-of [] = let e = ap size is.of_none in omega (arith, e)
  size-of (c ∷ []) = let e = ap size (is.of_one c) in omega (arith, e)
  size-of (c ∷ d ∷ cs) = let e = ap size (is.of_more c d cs) in let m = is.size_more c (exprs (d ∷ cs)) in omega (arith, e, m)

  pub equalities-of : (ks : List SqlType) (xs : List Expr) → equalities ks (of xs) ≤ equalities_each ks (exprs xs)
  equalities-of ks [] = let e = ap (equalities ks) is.of_none in omega (arith, e)
  equalities-of ks (c ∷ []) = let e = ap (equalities ks) (is.of_one c) in omega (arith, e)
  equalities-of ks (c ∷ d ∷ cs) = let e = ap (equalities ks) (is.of_more c d cs) in let m = is.equalities_are ks (exprs (c ∷ d ∷ cs)) in omega (arith, e, m)

  pub size-make : (es : Exprs) → 1 + sizes es ≤ size (make es)
  size-make Nil = let e = is.size_none in omega (arith, e)
  size-make (More e es) = let m = is.size_more e es in omega (arith, m)

  -- other members that are lighter and gather to the same truth make a simpler expression
  pub simpler : (ks : List SqlType) (k : SqlType) (es : Exprs) (ys : List Expr) → kind_of (make es) ks ≡ Some k → (AreTruths ks (each es) → AreTruths ks ys) → IsLighter ks (each es) ys
      → ((row : Row) → together row (each es) ≡ together row ys) → Simpler ks (make es) (of ys)
  simpler ks k es ys t truths light gathered =
      let h = truths-make ks k es t in
      let a = size-of ys in let b = light.sizes_less in let c = ap sizes (exprs_each es) in let d = size-make es in
      let m = equalities-of ks ys in let n = light.no_more in let o = ap (equalities_each ks) (exprs_each es) in let p = is.equalities_are ks es in
      record {
        same = record {
          kind_kept = kind-of ks ys (truths h) ∙ sym (kind-make ks es h);
          value = λ row w. value-of ks ys row w (truths h) ∙ ap truth_cell (sym (gathered row)) ∙ sym (value-make es row);
        };
        less = omega (arith, a, b, c, d);
        fewer = omega (arith, m, n, o, p);
      }
