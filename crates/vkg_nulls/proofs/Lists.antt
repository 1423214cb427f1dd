-- Lists as the program has them and as they are seen.
use Rattle.std.proofs.Common.{◌≡◌, ◌∙◌, ℕ, ◌+◌, ◌<◌, ◌≤◌, arith, Bool, true, false, List, [], ◌∷◌, ◌++◌, length, map, take, get_or, nat_eq, if◌then◌else◌, refl, sym, ap}
use Rattle.std.specs.List.{list_any}
use Rattle.std.proofs.lemmas.List.{map-append}
use Rattle.vkg_lists.specs.Sets.{distinct}
use Rattle.vkg_lists.proofs.Distinct.{distinct-take_more}
use Rattle.vkg_expr.specs.declared.expr.Expr.{Expr as ExprValue}
use Rattle.vkg_expr.specs.Seen.{expr_seen}
use Rattle.vkg_plan.specs.declared.plan.Plan.{Plan as PlanValue}
use Rattle.vkg_plan.specs.Kinds.{Tables}
use Rattle.vkg_plan.specs.Plan.{UnionAll, plans}
use Rattle.vkg_plan.specs.Seen.{plan_seen}
use Rattle.vkg_nulls.specs.KnownColumns.{known_columns, unsaid}
use Rattle.vkg_nulls.specs.NullTests.{null_test}

-- of what is projected nothing is said
pub flags_seen : (es : List ExprValue) → unsaid (map expr_seen es) ≡ unsaid es
flags_seen [] = refl
flags_seen (e ∷ es) = ap (λ fs. false ∷ fs) (flags_seen es)

pub one_more : (es ds : List ExprValue) → map expr_seen (es ++ ds) ≡ map expr_seen es ++ map expr_seen ds
one_more es ds = map-append expr_seen es ds

-- a column's test stands behind those before it, unless it is there already
pub test_once : (columns : List ℕ) (i d : ℕ) → i < length columns →
    map null_test (distinct nat_eq (take (i + 1) columns)) ≡ map null_test (distinct nat_eq (take i columns)) ++ (if list_any (λ c. nat_eq c (get_or columns i d)) (take i columns) then [] else null_test (get_or columns i d) ∷ [])
test_once columns i d h =
    ap (map null_test) (distinct-take_more nat_eq columns i d h)
    ∙ map-append null_test (distinct nat_eq (take i columns)) (if list_any (λ c. nat_eq c (get_or columns i d)) (take i columns) then [] else get_or columns i d ∷ [])
    ∙ ap (λ l. map null_test (distinct nat_eq (take i columns)) ++ l) (map_if (list_any (λ c. nat_eq c (get_or columns i d)) (take i columns)))
  where
    map_if : (b : Bool) → map null_test (if b then [] else get_or columns i d ∷ []) ≡ (if b then [] else null_test (get_or columns i d) ∷ [])
    map_if true = refl
    map_if false = refl

pub tests_more : (columns : List ℕ) (old new : List ExprValue) (before : List ℕ) (i column : ℕ) → i < length columns → map expr_seen old ≡ map null_test (distinct nat_eq (take i columns)) →
    map expr_seen new ≡ map expr_seen old ++ (if list_any (λ c. nat_eq c column) before then [] else null_test column ∷ []) → before ≡ take i columns → column ≡ get_or columns i 0 →
    map expr_seen new ≡ map null_test (distinct nat_eq (take (i + 1) columns))
tests_more columns old new before i column inside done more is at =
    more ∙ (λ j. done j ++ (if list_any (λ c. nat_eq c (at j)) (is j) then [] else null_test (at j) ∷ [])) ∙ sym (test_once columns i 0 inside)

-- ---- a union's first member

pub of_first : (s : Tables) (ps : List PlanValue) (p : PlanValue) → 1 ≤ length ps → p ≡ get_or ps 0 p → unsaid (known_columns s (plan_seen p)) ≡ known_columns s (UnionAll (plans (map plan_seen ps)))
of_first s [] p h is = absurd (omega (arith, h))
of_first s (q ∷ qs) p h is = ap (λ x. unsaid (known_columns s (plan_seen x))) is
