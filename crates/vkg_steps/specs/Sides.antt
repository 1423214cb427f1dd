-- What a side stands for: the node with a Unit in the place of the plan that it is a side of.
use Rattle.std.specs.Prelude.{List, map}
use Rattle.vkg_expr.specs.Seen.{expr_seen}
use Rattle.vkg_plan.specs.Plan.{Plan, Unit as UnitPlan, Project, Left}
use Rattle.vkg_plan.specs.Seen.{plan_seen}
use Rattle.vkg_steps.specs.declared.spine.Side.{Side}
use Rattle.vkg_steps.specs.declared.spine.Side.TheVariants.{Joined, Projected}

abbrev pub side_seen : Side → Plan
side_seen (Joined q c) = Left UnitPlan (plan_seen q) (expr_seen c)
side_seen (Projected es) = Project (map expr_seen es) UnitPlan

abbrev pub sides_seen : List Side → List Plan
sides_seen = map side_seen
