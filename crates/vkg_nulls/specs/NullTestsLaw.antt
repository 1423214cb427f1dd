-- Each step makes a condition simpler.
use Rattle.std.proofs.Common.{◌≡◌, ◌∙◌, ℕ, zero, suc, Bool, true, false, not, ◌&&◌, ◌||◌, List, [], ◌∷◌, map, nat_eq, refl, sym, ap, subst, arith}
use Rattle.std.specs.Prelude.{Some, fold, option_map}
use Rattle.std.specs.List.{AllByRecursion}
use Rattle.std.proofs.lemmas.Option.{same_Some}
use Rattle.vkg_lists.specs.Sets.{distinct}
use Rattle.vkg_lists.proofs.Bools.{and_parts}
use Rattle.vkg_lists.proofs.Each.{recursion_distinct, recursion_map}
use Rattle.vkg_lists.proofs.Members.{recursion_append}
use Rattle.vkg_lists.proofs.Onto.{map_given}
use Rattle.vkg_lists.proofs.Results.{then_given}
use Rattle.vkg_cells.specs.declared.cell.Cell.TheVariants as cell
use Rattle.vkg_cells.specs.declared.cell.SqlType.{SqlType}
use Rattle.vkg_cells.specs.declared.cell.SqlType.TheVariants as kind
use Rattle.vkg_schema.specs.Rows.{Row, cell_at, is_null}
use Rattle.vkg_values.specs.Logic.{or3}
use Rattle.vkg_expr.specs.Expr.{Expr, Exprs, Col, Const, MakeIri, IriOf, MakeBlank, MakeLit, Lex, IriSafe, Concat, Same, IsNull, Not, And, Or, Coalesce, Sparql, Ebv, Nil, More}
use Rattle.vkg_expr.specs.Laws.{FitsRow}
use Rattle.vkg_expr.specs.Logic.{or_of, truth_const}
use Rattle.vkg_expr.specs.Strict.{are_strict, columns, columns_each, is_strict}
use Rattle.vkg_expr.specs.Typing.{are_all, is_column, is_one, kind_of, kinds_of, no_column}
use Rattle.vkg_expr.specs.Value.{truth_cell}
use Rattle.vkg_expr.proofs.KindLists.{are_all-more}
use Rattle.vkg_expr.proofs.TypedParts.{lexical_given, one_is}
use Rattle.vkg_plan.specs.Kinds.{Kinds}
use Rattle.vkg_rules.specs.Measure.{size}
use Rattle.vkg_conditions.specs.ConditionsLaw.{if_so-given}
use Rattle.vkg_conditions.specs.Gathered.{gathered-more, or_gathers}
use Rattle.vkg_conditions.specs.Junctions.{AreTruths, IsTruth, Simpler, SimplerOn, kind-of, or_joins, truth_on, value-of}
use Rattle.vkg_conditions.specs.MembersLaw.{size_positive}
use Rattle.vkg_conditions.specs.SimplifyConditionLaw.{IsGood, IsGoodOn}
use Rattle.vkg_nulls.specs.KnownColumnsLaw.{HasKnown}
use Rattle.vkg_nulls.specs.NullExactly.{any_null, null-exactly}
use Rattle.vkg_nulls.specs.NullTests.{any_tested, flag_at, known_column, null_test, of_constant, of_strict}
use Rattle.vkg_nulls.specs.TestsSize.{any-once, heavy, once-fewer, tests-less, tests-none}

-- a test is a truth
test-truth : (ks : List SqlType) (e : Expr) (k : SqlType) → kind_of (IsNull e) ks ≡ Some k → IsTruth ks (IsNull e)
test-truth ks e k t = t ∙ ap Some (sym (map_given (λ l. kind.Bool) (kind_of e ks) k t).2)

test-is : (ks : List SqlType) (e : Expr) (k : SqlType) → kind_of (IsNull e) ks ≡ Some k → k ≡ kind.Bool
test-is ks e k t = sym (map_given (λ l. kind.Bool) (kind_of e ks) k t).2

-- ---- of a column that is never NULL

-- rows of their columns' kinds, in which such columns are not NULL
abbrev pub Known : List Bool → Kinds → Row → Type 0
Known flags ks row = FitsRow ks row × HasKnown flags row

known-at : (flags : List Bool) (row : Row) (at : ℕ) → HasKnown flags row → flag_at flags at ≡ true → is_null (cell_at row at) ≡ false
known-at [] row at h e = cc
known-at (f ∷ fs) [] at h e = absurd h
known-at (f ∷ fs) (c ∷ row) zero h e = h.0 e
known-at (f ∷ fs) (c ∷ row) (suc at) h e = known-at fs row at h.1 e

column-simpler : (flags : List Bool) (ks : List SqlType) (at : ℕ) (k : SqlType) → kind_of (IsNull (Col at)) ks ≡ Some k → flag_at flags at ≡ true → SimplerOn (Known flags ks) ks (IsNull (Col at)) (truth_const false)
column-simpler flags ks at k t h = record {
  same = record { kind_kept = sym (test-truth ks (Col at) k t); value = λ row w. ap cell.Bool (sym (known-at flags row at w.1 h)) };
  less = omega arith;
  fewer = omega arith;
}

known-simpler : (flags : List Bool) (ks : List SqlType) (e d : Expr) (k : SqlType) → kind_of e ks ≡ Some k → known_column flags e ≡ Some d → SimplerOn (Known flags ks) ks e d
known-simpler flags ks (IsNull (Col at)) d k t h =
    let g = if_so-given (flag_at flags at) (truth_const false) d h in
    subst (SimplerOn (Known flags ks) ks (IsNull (Col at))) g.1 (column-simpler flags ks at k t g.0)
known-simpler flags ks _ d k t h = cc

known-truth : (flags : List Bool) (ks : List SqlType) (e d : Expr) (k : SqlType) → kind_of e ks ≡ Some k → known_column flags e ≡ Some d → k ≡ kind.Bool
known-truth flags ks (IsNull e) d k t h = test-is ks e k t
known-truth flags ks _ d k t h = cc

pub known-good : (flags : List Bool) → IsGoodOn (Known flags) (known_column flags)
known-good flags = record { simpler = known-simpler flags; on_truths = known-truth flags }

-- ---- of a constant

constant-simpler : (ks : List SqlType) (e d : Expr) (k : SqlType) → kind_of e ks ≡ Some k → of_constant e ≡ Some d → Simpler ks e d
constant-simpler ks (IsNull (Const c l)) d k t h = subst (Simpler ks (IsNull (Const c l))) (same_Some (truth_const (is_null c)) d h) (record {
  same = record { kind_kept = sym (test-truth ks (Const c l) k t); value = λ row w. refl };
  less = omega arith;
  fewer = omega arith;
})
constant-simpler ks _ d k t h = cc

constant-truth : (ks : List SqlType) (e d : Expr) (k : SqlType) → kind_of e ks ≡ Some k → of_constant e ≡ Some d → k ≡ kind.Bool
constant-truth ks (IsNull e) d k t h = test-is ks e k t
constant-truth ks _ d k t h = cc

pub constant-good : IsGood of_constant
constant-good = record { simpler = constant-simpler; on_truths = constant-truth }

-- ---- of a strict expression

or-known : (a b : Bool) → or3 (Some a) (Some b) ≡ Some (a || b)
or-known true b = refl
or-known false true = refl
or-known false false = refl

tests-gathered : (row : Row) (cs : List ℕ) → fold or3 (Some false) (map (truth_on row) (map null_test cs)) ≡ Some (any_null row cs)
tests-gathered row [] = refl
tests-gathered row (c ∷ cs) =
    gathered-more or3 (Some false) (Some true) or_gathers (Some (is_null (cell_at row c))) (map (truth_on row) (map null_test cs))
    ∙ ap (or3 (Some (is_null (cell_at row c)))) (tests-gathered row cs) ∙ or-known (is_null (cell_at row c)) (any_null row cs)

module _ (ks : List SqlType) where
  -- the columns are typed
  abbrev IsTested : ℕ → Type 0
  IsTested at = IsTruth ks (null_test at)

  mutual
    columns-typed : (e : Expr) (k : SqlType) → kind_of e ks ≡ Some k → is_strict e ≡ true → AllByRecursion IsTested (columns e)
    columns-typed (Col at) k t s = (ap (option_map (λ l. kind.Bool)) t, tt)
    columns-typed (Const c l) k t s = tt
    columns-typed (MakeIri e) k t s = columns-typed e kind.Text (one_is kind.Text (kind_of e ks) (then_given (is_one kind.Text (kind_of e ks)) kind.Term k t).0) s
    columns-typed (IriOf base e) k t s = columns-typed e kind.Text (one_is kind.Text (kind_of e ks) (then_given (is_one kind.Text (kind_of e ks)) kind.Text k t).0) s
    columns-typed (MakeBlank e) k t s = columns-typed e kind.Text (one_is kind.Text (kind_of e ks) (then_given (is_one kind.Text (kind_of e ks)) kind.Term k t).0) s
    columns-typed (MakeLit e l) k t s = columns-typed e kind.Text (one_is kind.Text (kind_of e ks) (then_given (is_one kind.Text (kind_of e ks)) kind.Term k t).0) s
    columns-typed (IriSafe e) k t s = columns-typed e kind.Text (one_is kind.Text (kind_of e ks) (then_given (is_one kind.Text (kind_of e ks)) kind.Text k t).0) s
    columns-typed (Lex e) k t s = let m = lexical_given (kind_of e ks) k t in columns-typed e m.0 m.1 s
    columns-typed (Concat es) k t s =
        each-typed es (and_parts (no_column es) (are_all kind.Text (kinds_of es ks)) (then_given (no_column es && are_all kind.Text (kinds_of es ks)) kind.Text k t).0).1 s
    columns-typed (Same a b) k t s = cc
    columns-typed (IsNull e) k t s = cc
    columns-typed (Not e) k t s = cc
    columns-typed (And es) k t s = cc
    columns-typed (Or es) k t s = cc
    columns-typed (Coalesce es) k t s = cc
    columns-typed (Sparql op es) k t s = cc
    columns-typed (Ebv e) k t s = cc

    each-typed : (es : Exprs) → are_all kind.Text (kinds_of es ks) ≡ true → are_strict es ≡ true → AllByRecursion IsTested (columns_each es)
    each-typed Nil a s = tt
    each-typed (More e es) a s =
        let b = and_parts (is_one kind.Text (kind_of e ks)) (are_all kind.Text (kinds_of es ks)) (sym (are_all-more kind.Text (kind_of e ks) (kinds_of es ks)) ∙ a) in
        let c = and_parts (is_strict e) (are_strict es) s in
        recursion_append IsTested (columns e) (columns_each es) (columns-typed e kind.Text (one_is kind.Text (kind_of e ks) b.0) c.0) (each-typed es b.1 c.1)

  strict-test : (e : Expr) (k : SqlType) → kind_of (IsNull e) ks ≡ Some k → not (is_column e) ≡ true → is_strict e ≡ true → Simpler ks (IsNull e) (any_tested e)
  strict-test e k t n s =
      let m = map_given (λ l. kind.Bool) (kind_of e ks) k t in
      let cs = distinct nat_eq (columns e) in
      let ts : AreTruths ks (map null_test cs) = recursion_map (IsTruth ks) null_test cs (recursion_distinct IsTested nat_eq (columns e) (columns-typed e m.0 m.1 s)) in
      let z = tests-none ks cs in
      record {
        same = record {
          kind_kept = kind-of Or or_of or3 false true or_joins ks (map null_test cs) ts ∙ sym (test-truth ks e k t);
          value = λ row w.
              value-of Or or_of or3 false true or_joins ks (map null_test cs) row w ts
              ∙ ap truth_cell (tests-gathered row cs)
              ∙ ap cell.Bool (any-once (λ at. is_null (cell_at row at)) (columns e) ∙ sym (null-exactly ks row w e m.0 m.1 s));
        };
        less = tests-less cs _ (size e) (once-fewer (columns e)) (heavy ks e m.0 m.1 s n) (size_positive e);
        fewer = omega (arith, z);
      }

strict-simpler : (ks : List SqlType) (e d : Expr) (k : SqlType) → kind_of e ks ≡ Some k → of_strict e ≡ Some d → Simpler ks e d
strict-simpler ks (IsNull e) d k t h =
    let g = if_so-given (not (is_column e) && is_strict e) (any_tested e) d h in
    let b = and_parts (not (is_column e)) (is_strict e) g.0 in
    subst (Simpler ks (IsNull e)) g.1 (strict-test ks e k t b.0 b.1)
strict-simpler ks _ d k t h = cc

strict-truth : (ks : List SqlType) (e d : Expr) (k : SqlType) → kind_of e ks ≡ Some k → of_strict e ≡ Some d → k ≡ kind.Bool
strict-truth ks (IsNull e) d k t h = test-is ks e k t
strict-truth ks _ d k t h = cc

pub strict-good : IsGood of_strict
strict-good = record { simpler = strict-simpler; on_truths = strict-truth }
