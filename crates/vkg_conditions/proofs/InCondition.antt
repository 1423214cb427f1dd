-- The rule on a plan that has a condition, by the condition alone.
use Rattle.std.proofs.Common.{◌≡◌, ◌∙◌, true, Option, Some, None, refl, ap}
use Rattle.std.specs.Prelude.{option_and_then, option_map}
use Rattle.std.specs.Option.{option_or}
use Rattle.vkg_expr.specs.Expr.{Expr}
use Rattle.vkg_expr.specs.Places.{first_place}
use Rattle.vkg_plan.specs.Kinds.{Tables}
use Rattle.vkg_plan.specs.Plan.{Plan, Unit as UnitPlan, Empty, Scan, Select, Project, Join, Left, AntiJoin, UnionAll, Distinct}
use Rattle.vkg_rules.specs.declared.rewrite.Fell.TheVariants as fell
use Rattle.vkg_conditions.specs.Cases.{simplified_in, smaller}
use Rattle.vkg_conditions.specs.Conditions.{deciding, flat, negated, neutral, repeated, twice_negated}
use Rattle.vkg_conditions.specs.NodeCondition.{condition_of, conditioned, has_condition}
use Rattle.vkg_conditions.specs.SimplifyCondition.{in_conjuncts, same_itself, simplify_condition}

pub twice : {A B C : Type 0} (f : B → C) (g : A → B) (o : Option A) → option_map f (option_map g o) ≡ option_map (λ x. f (g x)) o
twice f g None = refl
twice f g (Some x) = refl

pub either : {A B : Type 0} (g : A → B) (a b : Option A) (r : Option B) → r ≡ option_map g b → option_or (option_map g a) r ≡ option_map g (option_or a b)
either g None b r e = e
either g (Some x) b r e = refl

-- g puts a condition into a plan
module _ (g : Expr → Plan) (c : Expr) where
  abbrev in_plan : (Expr → Option Expr) → Option Plan
  in_plan f = option_map g (first_place f c)

  all-cases : option_or (in_plan deciding) (option_or (in_plan neutral) (option_or (in_plan negated) (option_or (in_plan flat) (option_or (in_plan twice_negated) (option_or (in_plan repeated) (option_map g (in_conjuncts same_itself c))))))) ≡ option_map g (simplified_in c)
  all-cases =
      either g (first_place deciding c) _ _
      (either g (first_place neutral c) _ _
      (either g (first_place negated c) _ _
      (either g (first_place flat c) _ _
      (either g (first_place twice_negated c) _ _
      (either g (first_place repeated c) (in_conjuncts same_itself c) _ refl)))))

pub simplified_is : (s : Tables) (p : Plan) → has_condition p ≡ true → simplify_condition s p ≡ conditioned fell.Size p (option_and_then simplified_in (condition_of p))
unfolding simplify_condition
simplified_is s UnitPlan h = cc
simplified_is s (Empty ks) h = cc
simplified_is s (Scan table) h = cc
simplified_is s (Select c p) h = ap (option_map smaller) (all-cases (λ d. Select d p) c) ∙ twice smaller (λ d. Select d p) (simplified_in c)
simplified_is s (Project es p) h = cc
simplified_is s (Join ps c) h = ap (option_map smaller) (all-cases (Join ps) c) ∙ twice smaller (Join ps) (simplified_in c)
simplified_is s (Left p q c) h = ap (option_map smaller) (all-cases (Left p q) c) ∙ twice smaller (Left p q) (simplified_in c)
simplified_is s (AntiJoin p q c) h = ap (option_map smaller) (all-cases (AntiJoin p q) c) ∙ twice smaller (AntiJoin p q) (simplified_in c)
simplified_is s (UnionAll ps) h = cc
simplified_is s (Distinct p) h = cc
