-- The rules on a plan that has a condition, by the condition alone.
use Rattle.std.proofs.Common.{◌≡◌, ◌∙◌, Bool, true, Option, sym, ap}
use Rattle.std.specs.Prelude.{option_and_then, option_map}
use Rattle.vkg_expr.specs.declared.expr.Expr.{Expr as ExprValue}
use Rattle.vkg_expr.specs.Expr.{Expr}
use Rattle.vkg_expr.specs.Places.{first_place}
use Rattle.vkg_expr.specs.Seen.{expr_seen}
use Rattle.vkg_plan.specs.declared.plan.Plan.{Plan as PlanValue}
use Rattle.vkg_plan.specs.Kinds.{Tables}
use Rattle.vkg_plan.specs.Plan.{Plan, Unit as UnitPlan, Empty, Scan, Select, Project, Join, Left, AntiJoin, UnionAll, Distinct}
use Rattle.vkg_plan.specs.Seen.{plan_seen}
use Rattle.vkg_rules.specs.declared.rewrite.Fell.{Fell}
use Rattle.vkg_rules.specs.declared.rewrite.Fell.TheVariants as fell
use Rattle.vkg_conditions.specs.Cases.{smaller}
use Rattle.vkg_conditions.specs.NodeCondition.{condition_of, conditioned, has_condition}
use Rattle.vkg_conditions.proofs.InCondition.{twice}
use Rattle.vkg_nulls.specs.NullTests.{known_column}
use Rattle.vkg_nulls.specs.SimplifyNull.{changed_by}
use Rattle.vkg_sure.specs.FirstKnown.{first_known, first_known_of}
use Rattle.vkg_sure.specs.KnownMember.{known_member, known_member_of}
use Rattle.vkg_sure.specs.NeverNull.{own_never_null}
use Rattle.vkg_sure.specs.SureNull.{sure_null}

changed_is : (f : Expr → Option Expr) (p : Plan) → has_condition p ≡ true → changed_by f p ≡ conditioned fell.Size p (option_and_then (first_place f) (condition_of p))
changed_is f UnitPlan h = cc
changed_is f (Empty ks) h = cc
changed_is f (Scan table) h = cc
changed_is f (Select c p) h = twice smaller (λ d. Select d p) (first_place f c)
changed_is f (Project es p) h = cc
changed_is f (Join ps c) h = twice smaller (Join ps) (first_place f c)
changed_is f (Left p q c) h = twice smaller (Left p q) (first_place f c)
changed_is f (AntiJoin p q c) h = twice smaller (AntiJoin p q) (first_place f c)
changed_is f (UnionAll ps) h = cc
changed_is f (Distinct p) h = cc

pub sure_is : (s : Tables) (p : Plan) → has_condition p ≡ true → sure_null s p ≡ conditioned fell.Size p (option_and_then (first_place (known_column (own_never_null s p))) (condition_of p))
unfolding sure_null
sure_is s p h = changed_is (known_column (own_never_null s p)) p h

pub first_known_is : (s : Tables) (p : Plan) → has_condition p ≡ true → first_known s p ≡ conditioned fell.Size p (option_and_then (first_place (first_known_of (own_never_null s p))) (condition_of p))
unfolding first_known
first_known_is s p h = changed_is (first_known_of (own_never_null s p)) p h

pub known_member_is : (s : Tables) (p : Plan) → has_condition p ≡ true → known_member s p ≡ conditioned fell.Size p (option_and_then (first_place known_member_of) (condition_of p))
unfolding known_member
known_member_is s p h = changed_is known_member_of p h

-- ---- by what was told of the plan, moved and behind references

-- a plan, and what is less, as others are
abbrev pub AreAs : Plan × Option Fell → Plan × Option Fell → Type 0
AreAs x y = x ≡ y

has : (p x : PlanValue) (b : Bool) → x ≡ p → b ≡ has_condition (plan_seen x) → b ≡ true → has_condition (plan_seen p) ≡ true
has p x b same told is = ap (λ z. has_condition (plan_seen z)) (sym same) ∙ sym told ∙ is

pub sure_again : (s : Tables) (p x y : PlanValue) (o : Option ExprValue) (b : Bool) → x ≡ p → y ≡ p → b ≡ has_condition (plan_seen x) → b ≡ true →
    option_map expr_seen o ≡ option_and_then (first_place (known_column (own_never_null s (plan_seen y)))) (condition_of (plan_seen y)) → conditioned fell.Size (plan_seen p) (option_map expr_seen o) ≡ sure_null s (plan_seen p)
sure_again s p x y o b first second told is h =
    ap (conditioned fell.Size (plan_seen p)) (h ∙ ap (λ z. option_and_then (first_place (known_column (own_never_null s (plan_seen z)))) (condition_of (plan_seen z))) second)
    ∙ sym (sure_is s (plan_seen p) (has p x b first told is))

pub first_known_again : (s : Tables) (p x y : PlanValue) (o : Option ExprValue) (b : Bool) → x ≡ p → y ≡ p → b ≡ has_condition (plan_seen x) → b ≡ true →
    option_map expr_seen o ≡ option_and_then (first_place (first_known_of (own_never_null s (plan_seen y)))) (condition_of (plan_seen y)) → conditioned fell.Size (plan_seen p) (option_map expr_seen o) ≡ first_known s (plan_seen p)
first_known_again s p x y o b first second told is h =
    ap (conditioned fell.Size (plan_seen p)) (h ∙ ap (λ z. option_and_then (first_place (first_known_of (own_never_null s (plan_seen z)))) (condition_of (plan_seen z))) second)
    ∙ sym (first_known_is s (plan_seen p) (has p x b first told is))

pub known_member_again : (s : Tables) (p x y : PlanValue) (o : Option ExprValue) (b : Bool) → x ≡ p → y ≡ p → b ≡ has_condition (plan_seen x) → b ≡ true →
    option_map expr_seen o ≡ option_and_then (first_place known_member_of) (condition_of (plan_seen y)) → conditioned fell.Size (plan_seen p) (option_map expr_seen o) ≡ known_member s (plan_seen p)
known_member_again s p x y o b first second told is h =
    ap (conditioned fell.Size (plan_seen p)) (h ∙ ap (λ z. option_and_then (first_place known_member_of) (condition_of (plan_seen z))) second)
    ∙ sym (known_member_is s (plan_seen p) (has p x b first told is))
