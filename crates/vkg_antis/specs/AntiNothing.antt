-- An anti join that takes nothing away, or takes from nothing, is its left side.
use Rattle.std.specs.Prelude.{◌||◌, None}
use Rattle.std.specs.Bool.{then_some}
use Rattle.vkg_plan.specs.Plan.{AntiJoin}
use Rattle.vkg_rules.specs.declared.rewrite.Fell.TheVariants as fell
use Rattle.vkg_rules.specs.Steps.{Rule}
use Rattle.vkg_shapes.specs.FalseCondition.{is_never}
use Rattle.vkg_shapes.specs.PropagateEmpty.{is_nothing}

-- SQL-92, 8.12: no pair passes a condition that is false or NULL
abbrev pub anti_nothing : Rule
anti_nothing schema (AntiJoin p q c) = then_some (is_never c || (is_nothing q || is_nothing p)) (p, fell.Weight)
anti_nothing schema p = None
