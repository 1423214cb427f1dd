-- As many kinds as columns.
use Rattle.std.proofs.Common.{◌≡◌, length, Option, Some, None, refl}
use Rattle.std.specs.Option.{option_map_or}
use Rattle.vkg_plan.specs.Kinds.{Kinds, Tables, plan_kinds, width}
use Rattle.vkg_plan.specs.Plan.{Plan}
use Rattle.vkg_rules.specs.Measure.{kinds_or_none, or_no_kinds}

pub kinds-width : (s : Tables) (p : Plan) → length (kinds_or_none s p) ≡ width s p
kinds-width s p = at (plan_kinds s p)
  where
    at : (o : Option Kinds) → length (or_no_kinds o) ≡ option_map_or length o 0
    at None = refl
    at (Some ks) = refl
