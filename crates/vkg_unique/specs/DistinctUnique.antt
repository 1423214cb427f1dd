-- A distinct over a plan no two of whose rows are equal is that plan.
use Rattle.std.specs.Prelude.{None}
use Rattle.std.specs.Bool.{then_some}
use Rattle.vkg_plan.specs.Plan.{Distinct}
use Rattle.vkg_rules.specs.declared.rewrite.Fell.TheVariants as fell
use Rattle.vkg_rules.specs.Steps.{Rule}
use Rattle.vkg_unique.specs.Unique.{is_unique}

-- SQL-92, 7.9: DISTINCT drops no row where no two are equal
abbrev pub distinct_unique : Rule
distinct_unique schema (Distinct p) = then_some (is_unique schema p) (p, fell.Weight)
distinct_unique schema p = None
