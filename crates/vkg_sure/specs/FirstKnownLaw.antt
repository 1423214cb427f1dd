-- The laws of the rule: the plan's columns and rows stay, and the size of its expressions falls.
use Rattle.std.proofs.Common.{◌≡◌, ◌∙◌, inl, inr, ◌<◌, ◌≤◌, Bool, true, false, not, cond, ◌&&◌, ◌||◌, List, [], ◌∷◌, ◌++◌, refl, sym, ap, subst, arith}
use Rattle.std.specs.Prelude.{Option, Some, None, find, option_map, unwrap_or, if◌then◌else◌}
use Rattle.std.specs.Bool.{then_some}
use Rattle.std.specs.List.{AllByRecursion, list_all, list_any}
use Rattle.std.proofs.lemmas.Option.{same_Some}
use Rattle.vkg_lists.specs.Lists.{is_empty}
use Rattle.vkg_lists.specs.Options.{with_first}
use Rattle.vkg_lists.proofs.Bools.{and_parts, and_true}
use Rattle.vkg_lists.proofs.Members.{recursion_push}
use Rattle.vkg_lists.proofs.Onto.{first_given, map_given}
use Rattle.vkg_lists.proofs.Results.{then_given}
use Rattle.vkg_cells.specs.declared.cell.Cell.{Cell}
use Rattle.vkg_cells.specs.declared.cell.Cell.TheVariants as cell
use Rattle.vkg_cells.specs.declared.cell.SqlType.{SqlType}
use Rattle.vkg_cells.specs.declared.cell.SqlType.TheVariants as kind
use Rattle.vkg_schema.specs.Rows.{Row, is_null}
use Rattle.vkg_expr.specs.Expr.{Expr, Exprs, Const, MakeIri, MakeBlank, MakeLit, Coalesce, Nil, More, each, exprs}
use Rattle.vkg_expr.specs.Typing.{common, fits, is_column, is_one, kind_of, kinds_of, same_kind}
use Rattle.vkg_expr.specs.Value.{coalesced, value_of, values_of}
use Rattle.vkg_expr.proofs.KindLists.{itself}
use Rattle.vkg_expr.proofs.ValueFits.{common_given, kind_same}
use Rattle.vkg_plan.specs.Kinds.{Tables}
use Rattle.vkg_plan.specs.Plan.{Plan}
use Rattle.vkg_rules.specs.InNodes.{IsLawful}
use Rattle.vkg_rules.specs.Measure.{equalities, equalities_each, size, sizes}
use Rattle.vkg_rules.specs.Steps.{FallsAll, IsTyped, KeepsAll, Step}
use Rattle.vkg_same.specs.SameExpr.{same_expr}
use Rattle.vkg_same.specs.SameExprLaw.{same_expr-is}
use Rattle.vkg_conditions.specs.Cases.{smaller}
use Rattle.vkg_conditions.specs.Conditions.{if_so}
use Rattle.vkg_conditions.specs.ConditionsLaw.{if_so-given}
use Rattle.vkg_conditions.specs.FirstPlace.{or_cases}
use Rattle.vkg_conditions.specs.Junctions.{SimplerOn, exprs_each}
use Rattle.vkg_conditions.specs.MembersLaw.{size_positive}
use Rattle.vkg_conditions.specs.SimplifyCondition.{in_own}
use Rattle.vkg_nulls.specs.NullTestsLaw.{Known}
use Rattle.vkg_equalities.specs.Decided.{makes_term}
use Rattle.vkg_sure.specs.NeverNull.{is_known, own_never_null}
use Rattle.vkg_sure.specs.NeverNullLaw.{known-value}
use Rattle.vkg_sure.specs.SureNullLaw.{own-known}
use Rattle.vkg_sure.specs.AtPlaces.{sound-lawful}
use Rattle.vkg_sure.specs.FirstKnown.{adds_nothing, coalesce_of, fewer, first_alone, first_known, first_known_of, first_value, is_null_constant, of_first, of_members, shorter}

-- ---- the first of some cells that is not NULL

null-first : (c : Cell) (cs : List Cell) → is_null c ≡ true → coalesced (c ∷ cs) ≡ coalesced cs
null-first c cs e = ap (λ b. unwrap_or (cond (not b) (Some c) (find (λ d. not (is_null d)) cs)) cell.Null) e

known-first : (c : Cell) (cs : List Cell) → is_null c ≡ false → coalesced (c ∷ cs) ≡ c
known-first c cs e = ap (λ b. unwrap_or (cond (not b) (Some c) (find (λ d. not (is_null d)) cs)) cell.Null) e

-- what comes first stays first
kept-first : (c : Cell) (cs ds : List Cell) → (is_null c ≡ true → coalesced ds ≡ coalesced cs) → coalesced (c ∷ ds) ≡ coalesced (c ∷ cs)
kept-first c cs ds h = elim (is_null c) as (λ b. is_null c ≡ b → coalesced (c ∷ ds) ≡ coalesced (c ∷ cs)) [
  | true ↦ λ e. null-first c ds e ∙ h e ∙ sym (null-first c cs e)
  | false ↦ λ e. known-first c ds e ∙ sym (known-first c cs e)
] refl

-- a member that adds nothing is NULL where those before it are
abbrev AreNull : Row → List Expr → Type 0
AreNull row = AllByRecursion (λ b. is_null (value_of b row) ≡ true)

among-null : (row : Row) (e : Expr) (before : List Expr) → AreNull row before → list_any (same_expr e) before ≡ true → is_null (value_of e row) ≡ true
among-null row e [] n h = cc
among-null row e (b ∷ before) n h = elim (same_expr e b) as (λ t. same_expr e b ≡ t → (t || list_any (same_expr e) before) ≡ true → is_null (value_of e row) ≡ true) [
  | true ↦ λ i g. ap (λ x. is_null (value_of x row)) (same_expr-is e b i) ∙ n.0
  | false ↦ λ i g. among-null row e before n.1 g
] refl h

constant-null : (row : Row) (e : Expr) → is_null_constant e ≡ true → is_null (value_of e row) ≡ true
constant-null row (Const c k) h = h
constant-null row _ h = cc

nothing-null : (row : Row) (before : List Expr) (e : Expr) → AreNull row before → adds_nothing before e ≡ true → is_null (value_of e row) ≡ true
nothing-null row before e n h = elim (is_null_constant e) as (λ t. is_null_constant e ≡ t → (t || list_any (same_expr e) before) ≡ true → is_null (value_of e row) ≡ true) [
  | true ↦ λ i g. constant-null row e i
  | false ↦ λ i g. among-null row e before n g
] refl h

-- ---- members of one kind

abbrev AreOf : List SqlType → SqlType → List Expr → Type 0
AreOf ks k = AllByRecursion (λ e. kind_of e ks ≡ Some k)

of-each : (ks : List SqlType) (k : SqlType) (es : Exprs) (ls : List SqlType) → kinds_of es ks ≡ Some ls → list_all (same_kind k) ls ≡ true → AreOf ks k (each es)
of-each ks k Nil ls t h = tt
of-each ks k (More e es) ls t h =
    let m = first_given (kind_of e ks) (kinds_of es ks) ls t in
    let b = and_parts (same_kind k m.0) (list_all (same_kind k) m.2.0) (subst (λ l. list_all (same_kind k) l ≡ true) (sym m.2.2) h) in
    (m.1 ∙ ap Some (sym (kind_same k m.0 b.0)), of-each ks k es m.2.0 m.2.1 b.1)

of-common : (ks : List SqlType) (k : SqlType) (es : Exprs) → kind_of (Coalesce es) ks ≡ Some k → AreOf ks k (each es)
of-common ks k es t = let m = common_given (kinds_of es ks) k t in of-each ks k es m.0 m.1 m.2

kinds-alike : (ks : List SqlType) (k : SqlType) (ys : List Expr) → AreOf ks k ys → (ls : List SqlType) × (kinds_of (exprs ys) ks ≡ Some ls) × (list_all (same_kind k) ls ≡ true)
kinds-alike ks k [] h = ([], refl, refl)
kinds-alike ks k (y ∷ ys) h =
    let r = kinds-alike ks k ys h.1 in
    (k ∷ r.0, (λ i. with_first (h.0 i) (r.1 i)), and_true (same_kind k k) (list_all (same_kind k) r.0) (itself k) r.2)

common-kind : (ks : List SqlType) (k : SqlType) (y : Expr) (ys : List Expr) → AreOf ks k (y ∷ ys) → kind_of (Coalesce (exprs (y ∷ ys))) ks ≡ Some k
common-kind ks k y ys h =
    let r = kinds-alike ks k ys h.1 in
    (λ i. common (with_first (h.0 i) (r.1 i))) ∙ ap (λ b. then_some b k) r.2

-- ---- fewer members

record Shorter (On : Row → Type 0) (ks : List SqlType) (k : SqlType) (before xs ys : List Expr) : Type 0 where
  of_kind : AreOf ks k ys
  less : sizes (exprs ys) < sizes (exprs xs)
  no_more : equalities_each ks (exprs ys) ≤ equalities_each ks (exprs xs)
  value : (row : Row) → On row → AreNull row before → coalesced (values_of (exprs ys) row) ≡ coalesced (values_of (exprs xs) row)

behind-empty : (es : List Expr) → not (is_empty es) ≡ true → 1 ≤ sizes (exprs es)
behind-empty [] h = cc
behind-empty (e ∷ es) h = let p = size_positive e in omega (arith, p)

module _ (flags : List Bool) (ks : List SqlType) (k : SqlType) where
  abbrev On : Row → Type 0
  On = Known flags ks

  closed : (before : List Expr) (e : Expr) (es ys : List Expr) (b : Bool) → (is_known flags e && not (is_empty es)) ≡ b → AreOf ks k (e ∷ es)
      → ((ds : List Expr) → fewer flags (before ++ e ∷ []) es ≡ Some ds → Shorter On ks k (before ++ e ∷ []) es ds)
      → (if b then Some (e ∷ []) else option_map (λ ds. e ∷ ds) (fewer flags (before ++ e ∷ []) es)) ≡ Some ys → Shorter On ks k before (e ∷ es) ys
  closed before e es ys true i t rec h =
      let b = and_parts (is_known flags e) (not (is_empty es)) i in
      let n = behind-empty es b.1 in
      subst (Shorter On ks k before (e ∷ es)) (same_Some (e ∷ []) ys h) (record {
        of_kind = (t.0, tt);
        less = omega (arith, n);
        no_more = omega arith;
        value = λ row w z.
            let v = known-value ks row w.0 flags e k w.1 t.0 b.0 in
            known-first (value_of e row) [] v ∙ sym (known-first (value_of e row) (values_of (exprs es) row) v);
      })
  closed before e es ys false i t rec h =
      let m = map_given (λ (ds : List Expr). e ∷ ds) (fewer flags (before ++ e ∷ []) es) ys h in
      let r = rec m.0 m.1 in let a = r.less in let b = r.no_more in
      subst (Shorter On ks k before (e ∷ es)) m.2 (record {
        of_kind = (t.0, r.of_kind);
        less = omega (arith, a);
        no_more = omega (arith, b);
        value = λ row w z. kept-first (value_of e row) (values_of (exprs es) row) (values_of (exprs m.0) row)
            (λ n. r.value row w (recursion_push (λ b. is_null (value_of b row) ≡ true) before e z n));
      })

  dropped : (before : List Expr) (e : Expr) (es ys : List Expr) (b : Bool) → adds_nothing before e ≡ b → AreOf ks k (e ∷ es)
      → ((ds : List Expr) → fewer flags (before ++ e ∷ []) es ≡ Some ds → Shorter On ks k (before ++ e ∷ []) es ds)
      → (if b then Some es else (if is_known flags e && not (is_empty es) then Some (e ∷ []) else option_map (λ ds. e ∷ ds) (fewer flags (before ++ e ∷ []) es))) ≡ Some ys
      → Shorter On ks k before (e ∷ es) ys
  dropped before e es ys true i t rec h = let p = size_positive e in subst (Shorter On ks k before (e ∷ es)) (same_Some es ys h) (record {
    of_kind = t.1;
    less = omega (arith, p);
    no_more = omega arith;
    value = λ row w z. sym (null-first (value_of e row) (values_of (exprs es) row) (nothing-null row before e z i));
  })
  dropped before e es ys false i t rec h = closed before e es ys (is_known flags e && not (is_empty es)) refl t rec h

  fewer-shorter : (before xs ys : List Expr) → AreOf ks k xs → fewer flags before xs ≡ Some ys → Shorter On ks k before xs ys
  fewer-shorter before [] ys t h = cc
  fewer-shorter before (e ∷ es) ys t h = dropped before e es ys (adds_nothing before e) refl t (λ ds i. fewer-shorter (before ++ e ∷ []) es ds t.1 i) h

  -- ---- the first value

  record IsFirst (e d : Expr) : Type 0 where
    of_kind : kind_of d ks ≡ Some k
    most : size d ≤ size e
    no_more : equalities ks d ≤ equalities ks e
    value : (row : Row) → On row → value_of e row ≡ value_of d row
    known : (row : Row) → On row → is_null (value_of d row) ≡ false

  first-itself : (e d : Expr) → kind_of e ks ≡ Some k → if_so (is_known flags e) e ≡ Some d → IsFirst e d
  first-itself e d t h =
      let g = if_so-given (is_known flags e) e d h in
      subst (IsFirst e) g.1 (record {
        of_kind = t;
        most = omega arith;
        no_more = omega arith;
        value = λ row w. refl;
        known = λ row w. known-value ks row w.0 flags e k w.1 t g.0;
      })

  mutual
    first-is : (e d : Expr) → kind_of e ks ≡ Some k → first_value flags e ≡ Some d → IsFirst e d
    first-is (Coalesce es) d t h = first-of es d t h
    first-is e d t h = first-itself e d t h

    first-of : (es : Exprs) (d : Expr) → kind_of (Coalesce es) ks ≡ Some k → of_first flags es ≡ Some d → IsFirst (Coalesce es) d
    first-of Nil d t h = cc
    first-of (More e es) d t h =
        let of = of-common ks k (More e es) t in
        let r = first-is e d of.0 h in
        let a = r.most in let b = r.no_more in
        record {
          of_kind = r.of_kind;
          most = omega (arith, a);
          no_more = omega (arith, b);
          value = λ row w. known-first (value_of e row) (values_of es row) (ap is_null (r.value row w) ∙ r.known row w) ∙ r.value row w;
          known = r.known;
        }

  first-shorter : (e d f : Expr) (es : List Expr) → IsFirst e d → Shorter On ks k [] (e ∷ f ∷ es) (d ∷ [])
  first-shorter e d f es r =
      let p = size_positive f in let a = r.most in let b = r.no_more in
      record {
        of_kind = (r.of_kind, tt);
        less = omega (arith, p, a);
        no_more = omega (arith, b);
        value = λ row w z.
            let n = ap is_null (r.value row w) ∙ r.known row w in
            known-first (value_of d row) [] (r.known row w) ∙ sym (r.value row w) ∙ sym (known-first (value_of e row) (values_of (exprs (f ∷ es)) row) n);
      }

  alone-shorter : (e f : Expr) (es ys : List Expr) → AreOf ks k (e ∷ f ∷ es) → first_alone flags (e ∷ f ∷ es) ≡ Some ys → Shorter On ks k [] (e ∷ f ∷ es) ys
  alone-shorter e f es ys t h =
      let m = map_given (λ (d : Expr). d ∷ []) (first_value flags e) ys h in
      subst (Shorter On ks k [] (e ∷ f ∷ es)) m.2 (first-shorter e m.0 f es (first-is e m.0 t.0 m.1))

  all-shorter : (e f : Expr) (es ys : List Expr) → AreOf ks k (e ∷ f ∷ es) → shorter flags (e ∷ f ∷ es) ≡ Some ys → Shorter On ks k [] (e ∷ f ∷ es) ys
  all-shorter e f es ys t h = elim (or_cases (first_alone flags (e ∷ f ∷ es)) (fewer flags [] (e ∷ f ∷ es)) ys h) [
    | inl i ↦ alone-shorter e f es ys t i
    | inr i ↦ fewer-shorter [] (e ∷ f ∷ es) ys t i
  ]

  -- of two or more something is left
  left-some : (e f : Expr) (es : List Expr) (b c : Bool) (o : Option (List Expr)) → (if b then Some (f ∷ es) else (if c then Some (e ∷ []) else option_map (λ ds. e ∷ ds) o)) ≡ Some [] → ⊥
  left-some e f es true c o h = cc
  left-some e f es false true o h = cc
  left-some e f es false false None h = cc
  left-some e f es false false (Some ds) h = cc

  some-alone : (o : Option Expr) → option_map (λ (d : Expr). d ∷ []) o ≡ Some [] → ⊥
  some-alone None h = cc
  some-alone (Some d) h = cc

  some-left : (e f : Expr) (es : List Expr) → shorter flags (e ∷ f ∷ es) ≡ Some [] → ⊥
  some-left e f es h = elim (or_cases (first_alone flags (e ∷ f ∷ es)) (fewer flags [] (e ∷ f ∷ es)) [] h) [
    | inl i ↦ some-alone (first_value flags e) i
    | inr i ↦ left-some e f es (adds_nothing [] e) (is_known flags e && not (is_empty (f ∷ es))) (fewer flags (e ∷ []) (f ∷ es)) i
  ]

  -- the COALESCE of fewer members, or its one member
  fewer-simpler : (xs ys : List Expr) (y : Expr) (all : Exprs) → each all ≡ xs → kind_of (Coalesce all) ks ≡ Some k → Shorter On ks k [] xs (y ∷ ys) → SimplerOn On ks (Coalesce all) (Coalesce (exprs (y ∷ ys)))
  fewer-simpler xs ys y all i t r =
      let back = ap exprs (sym i) ∙ exprs_each all in
      let a = r.less in let b = ap sizes back in let c = r.no_more in let d = ap (equalities_each ks) back in
      record {
        same = record {
          kind_kept = common-kind ks k y ys r.of_kind ∙ sym t;
          value = λ row w. r.value row w tt ∙ ap (λ x. coalesced (values_of x row)) back;
        };
        less = omega (arith, a, b);
        fewer = omega (arith, c, d);
      }

  alone : (c : Cell) → coalesced (c ∷ []) ≡ c
  alone cell.Null = refl
  alone _ = refl

  last-simpler : (xs : List Expr) (y : Expr) (all : Exprs) → each all ≡ xs → kind_of (Coalesce all) ks ≡ Some k → Shorter On ks k [] xs (y ∷ []) → SimplerOn On ks (Coalesce all) y
  last-simpler xs y all i t r =
      let back = ap exprs (sym i) ∙ exprs_each all in
      let a = r.less in let b = ap sizes back in let c = r.no_more in let d = ap (equalities_each ks) back in
      record {
        same = record {
          kind_kept = r.of_kind.0 ∙ sym t;
          value = λ row w. sym (alone (value_of y row)) ∙ r.value row w tt ∙ ap (λ x. coalesced (values_of x row)) back;
        };
        less = omega (arith, a, b);
        fewer = omega (arith, c, d);
      }

  made-simpler : (terms : Bool) (xs ys : List Expr) (y : Expr) (all : Exprs) → each all ≡ xs → kind_of (Coalesce all) ks ≡ Some k → Shorter On ks k [] xs (y ∷ ys) → SimplerOn On ks (Coalesce all) (coalesce_of terms (y ∷ ys))
  made-simpler terms xs [] y all i t r = elim (terms || not (is_column y)) as (λ b. SimplerOn On ks (Coalesce all) (if b then y else Coalesce (exprs (y ∷ [])))) [
    | true ↦ last-simpler xs y all i t r
    | false ↦ fewer-simpler xs [] y all i t r
  ]
  made-simpler terms xs (z ∷ ys) y all i t r = fewer-simpler xs (z ∷ ys) y all i t r

  several-simpler : (e f : Expr) (es : List Expr) (all : Exprs) (terms : Bool) (ys : List Expr) → each all ≡ e ∷ f ∷ es → kind_of (Coalesce all) ks ≡ Some k → shorter flags (e ∷ f ∷ es) ≡ Some ys
      → SimplerOn On ks (Coalesce all) (coalesce_of terms ys)
  several-simpler e f es all terms [] i t h = absurd (some-left e f es h)
  several-simpler e f es all terms (y ∷ ys) i t h =
      let of = subst (AreOf ks k) i (of-common ks k all t) in
      made-simpler terms (e ∷ f ∷ es) ys y all i t (all-shorter e f es (y ∷ ys) of h)

  one-simpler : (e : Expr) (all : Exprs) → each all ≡ e ∷ [] → kind_of (Coalesce all) ks ≡ Some k → SimplerOn On ks (Coalesce all) e
  one-simpler e all i t =
      let of = subst (AreOf ks k) i (of-common ks k all t) in
      let back = ap exprs (sym i) ∙ exprs_each all in
      let b = ap sizes back in let d = ap (equalities_each ks) back in
      record {
        same = record {
          kind_kept = of.0 ∙ sym t;
          value = λ row w. sym (alone (value_of e row)) ∙ ap (λ x. coalesced (values_of x row)) back;
        };
        less = omega (arith, b);
        fewer = omega (arith, d);
      }

  members-simpler : (xs : List Expr) (all : Exprs) (d : Expr) → each all ≡ xs → kind_of (Coalesce all) ks ≡ Some k → of_members flags xs ≡ Some d → SimplerOn On ks (Coalesce all) d
  members-simpler [] all d i t h = cc
  members-simpler (e ∷ []) all d i t h =
      let g = if_so-given (not (is_column e)) e d h in
      subst (SimplerOn On ks (Coalesce all)) g.1 (one-simpler e all i t)
  members-simpler (e ∷ f ∷ es) all d i t h =
      let terms = list_any makes_term (e ∷ f ∷ es) in
      let m = map_given (coalesce_of terms) (shorter flags (e ∷ f ∷ es)) d h in
      subst (SimplerOn On ks (Coalesce all)) m.2 (several-simpler e f es all terms m.0 i t m.1)

known-simpler : (flags : List Bool) (ks : List SqlType) (e d : Expr) (k : SqlType) → kind_of e ks ≡ Some k → first_known_of flags e ≡ Some d → SimplerOn (Known flags ks) ks e d
known-simpler flags ks (Coalesce es) d k t h = members-simpler flags ks k (each es) es d refl t h
known-simpler flags ks _ d k t h = cc

-- ---- no text becomes a column

makes-term : (ks : List SqlType) (e : Expr) (k : SqlType) → makes_term e ≡ true → kind_of e ks ≡ Some k → k ≡ kind.Term
makes-term ks (Const c l) k h t = sym (then_given (fits l c) l k t).1 ∙ sym (kind_same kind.Term l h)
makes-term ks (MakeIri e) k h t = sym (then_given (is_one kind.Text (kind_of e ks)) kind.Term k t).1
makes-term ks (MakeBlank e) k h t = sym (then_given (is_one kind.Text (kind_of e ks)) kind.Term k t).1
makes-term ks (MakeLit e annotation) k h t = sym (then_given (is_one kind.Text (kind_of e ks)) kind.Term k t).1
makes-term ks _ k h t = cc

no-term : (ks : List SqlType) (xs : List Expr) → AreOf ks kind.Text xs → list_any makes_term xs ≡ true → ⊥
no-term ks [] t h = cc
no-term ks (x ∷ xs) t h = elim (makes_term x) as (λ b. makes_term x ≡ b → (b || list_any makes_term xs) ≡ true → ⊥) [
  | true ↦ λ i g. let b = makes-term ks x kind.Text i t.0 in cc b
  | false ↦ λ i g. no-term ks xs t.1 g
] refl h

bare-one : (y : Expr) (b : Bool) → not (is_column y) ≡ b → not (is_column (if b then y else Coalesce (exprs (y ∷ [])))) ≡ true
bare-one y true e = e
bare-one y false e = refl

bare-of : (ys : List Expr) → not (is_column (coalesce_of false ys)) ≡ true
bare-of [] = refl
bare-of (y ∷ []) = bare-one y (not (is_column y)) refl
bare-of (y ∷ z ∷ ys) = refl

members-bare : (flags : List Bool) (ks : List SqlType) (xs : List Expr) (d : Expr) → AreOf ks kind.Text xs → of_members flags xs ≡ Some d → not (is_column d) ≡ true
members-bare flags ks [] d t h = cc
members-bare flags ks (e ∷ []) d t h = let g = if_so-given (not (is_column e)) e d h in subst (λ x. not (is_column x) ≡ true) g.1 g.0
members-bare flags ks (e ∷ f ∷ es) d t h =
    let terms = list_any makes_term (e ∷ f ∷ es) in
    let m = map_given (coalesce_of terms) (shorter flags (e ∷ f ∷ es)) d h in
    subst (λ x. not (is_column x) ≡ true) m.2
    (elim terms as (λ b. terms ≡ b → not (is_column (coalesce_of b m.0)) ≡ true) [
      | true ↦ λ i. absurd (no-term ks (e ∷ f ∷ es) t i)
      | false ↦ λ i. bare-of m.0
    ] refl)

known-bare : (flags : List Bool) (ks : List SqlType) (e d : Expr) → kind_of e ks ≡ Some kind.Text → first_known_of flags e ≡ Some d → not (is_column d) ≡ true
known-bare flags ks (Coalesce es) d t h = members-bare flags ks (each es) d (of-common ks kind.Text es t) h
known-bare flags ks _ d t h = cc

lawful : (s : Tables) (p : Plan) (x : Step) → IsTyped s p → first_known s p ≡ Some x → IsLawful s p x
unfolding first_known
lawful s p x t h =
    let flags = own_never_null s p in
    let m = map_given smaller (in_own (first_known_of flags) p) x h in
    subst (IsLawful s p) m.2
    (sound-lawful (Known flags) (first_known_of flags) (record { simpler = known-simpler flags; bare = known-bare flags }) s p m.0 (own-known s p) t m.1)

pub first_known-keeps : KeepsAll first_known
first_known-keeps s form p x t h = let l = lawful s p x t h in record { kinds = l.kinds; rows = l.rows }

pub first_known-falls : FallsAll first_known
first_known-falls s form p x t h = (lawful s p x t h).falls
