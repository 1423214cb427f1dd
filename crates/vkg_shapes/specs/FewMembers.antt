-- A Join of one member, and Units among the members of a Join.
use Rattle.std.specs.Prelude.{Bool, true, false, Option, Some, None, option_map}
use Rattle.vkg_expr.specs.Expr.{Expr}
use Rattle.vkg_plan.specs.Plan.{Plan, Plans, Unit, Select, Join, Nil, More}
use Rattle.vkg_rules.specs.declared.rewrite.Fell.TheVariants as fell
use Rattle.vkg_rules.specs.Steps.{Rule, Step}
use Rattle.vkg_shapes.specs.Without.{without_first}

-- the plan of one row without columns
abbrev pub is_unit : Plan → Bool
is_unit Unit = true
is_unit p = false

-- a product of one is that one, and a product of more stays without its first Unit
abbrev pub few_joined : Expr → Plans → Option Step
few_joined c (More p Nil) = Some (Select c p, fell.Weight)
few_joined c ps = option_map (λ qs. (Join qs c, fell.Weight)) (without_first is_unit ps)

-- so of each Join
abbrev pub few_members : Rule
few_members schema (Join ps c) = few_joined c ps
few_members schema p = None
