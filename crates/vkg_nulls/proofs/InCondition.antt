-- The rule on a plan that has a condition, by the condition alone.
use Rattle.std.proofs.Common.{◌≡◌, ◌∙◌, Bool, true, List, Option, ap}
use Rattle.std.specs.Prelude.{option_and_then, option_map}
use Rattle.std.specs.Option.{option_or}
use Rattle.vkg_expr.specs.Expr.{Expr}
use Rattle.vkg_expr.specs.Places.{first_place}
use Rattle.vkg_plan.specs.Kinds.{Tables}
use Rattle.vkg_plan.specs.Plan.{Plan, Unit as UnitPlan, Empty, Scan, Select, Project, Join, Left, AntiJoin, UnionAll, Distinct}
use Rattle.vkg_rules.specs.declared.rewrite.Fell.TheVariants as fell
use Rattle.vkg_rules.specs.Steps.{Step}
use Rattle.vkg_conditions.specs.Cases.{smaller}
use Rattle.vkg_conditions.specs.NodeCondition.{condition_of, conditioned, has_condition}
use Rattle.vkg_conditions.proofs.InCondition.{either, twice}
use Rattle.vkg_nulls.specs.KnownColumns.{own_known}
use Rattle.vkg_nulls.specs.NullTests.{known_column, of_constant, of_strict}
use Rattle.vkg_nulls.specs.SimplifyNull.{null_in, simplify_null}

-- g puts a condition into a plan
module _ (g : Expr → Plan) (c : Expr) where
  abbrev in_plan : (Expr → Option Expr) → Option Step
  in_plan f = option_map smaller (option_map g (first_place f c))

  one : (f : Expr → Option Expr) (b : Option Expr) (r : Option Step) → r ≡ option_map (λ d. smaller (g d)) b → option_or (in_plan f) r ≡ option_map (λ d. smaller (g d)) (option_or (first_place f c) b)
  one f b r e = ap (λ o. option_or o r) (twice smaller g (first_place f c)) ∙ either (λ d. smaller (g d)) (first_place f c) b r e

  all-cases : (known : List Bool) → option_or (in_plan (known_column known)) (option_or (in_plan of_constant) (in_plan of_strict)) ≡ option_map (λ d. smaller (g d)) (null_in known c)
  all-cases known =
      one (known_column known) (option_or (first_place of_constant c) (first_place of_strict c)) (option_or (in_plan of_constant) (in_plan of_strict))
      (one of_constant (first_place of_strict c) (in_plan of_strict) (twice smaller g (first_place of_strict c)))

pub null_is : (s : Tables) (p : Plan) → has_condition p ≡ true → simplify_null s p ≡ conditioned fell.Size p (option_and_then (null_in (own_known s p)) (condition_of p))
unfolding simplify_null
null_is s UnitPlan h = cc
null_is s (Empty ks) h = cc
null_is s (Scan table) h = cc
null_is s (Select c p) h = all-cases (λ d. Select d p) c (own_known s (Select c p))
null_is s (Project es p) h = cc
null_is s (Join ps c) h = all-cases (Join ps) c (own_known s (Join ps c))
null_is s (Left p q c) h = all-cases (Left p q) c (own_known s (Left p q c))
null_is s (AntiJoin p q c) h = all-cases (AntiJoin p q) c (own_known s (AntiJoin p q c))
null_is s (UnionAll ps) h = cc
null_is s (Distinct p) h = cc
