-- A plan that has no row in common with any of those before it.
use Rattle.std.specs.Prelude.{Bool, true, ◌&&◌}
use Rattle.vkg_plan.specs.Kinds.{Tables}
use Rattle.vkg_plan.specs.Plan.{Plan, Plans, Nil, More}
use Rattle.vkg_unique.specs.Apart.{are_apart}

abbrev pub is_apart_from_each : Tables → Plans → Plan → Bool
is_apart_from_each schema Nil p = true
is_apart_from_each schema (More q qs) p = are_apart schema q p && is_apart_from_each schema qs p
