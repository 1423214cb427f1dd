-- The condition of a plan's first node, and the node under another one.
use Rattle.std.specs.Prelude.{Bool, true, false, Option, Some, None, option_map}
use Rattle.vkg_expr.specs.Expr.{Expr}
use Rattle.vkg_plan.specs.Plan.{Plan, Select, Join, Left, AntiJoin}
use Rattle.vkg_rules.specs.declared.rewrite.Fell.{Fell}
use Rattle.vkg_rules.specs.Steps.{Step}

-- of a selection, a join, a left join or an anti join (SQL-92, 7.6 and 7.5)
abbrev pub condition_of : Plan → Option Expr
condition_of (Select c p) = Some c
condition_of (Join ps c) = Some c
condition_of (Left p q c) = Some c
condition_of (AntiJoin p q c) = Some c
condition_of p = None

abbrev pub has_condition : Plan → Bool
has_condition (Select c p) = true
has_condition (Join ps c) = true
has_condition (Left p q c) = true
has_condition (AntiJoin p q c) = true
has_condition p = false

-- one that has none stays
abbrev pub with_condition : Expr → Plan → Plan
with_condition c (Select b p) = Select c p
with_condition c (Join ps b) = Join ps c
with_condition c (Left p q b) = Left p q c
with_condition c (AntiJoin p q b) = AntiJoin p q c
with_condition c p = p

-- the step to the node under another condition, if there is one
abbrev pub conditioned : Fell → Plan → Option Expr → Option Step
conditioned fell p = option_map (λ c. (with_condition c p, fell))
