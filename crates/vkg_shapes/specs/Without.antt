-- A list of plans without the first for which a test holds, and without the one at a place.
use Rattle.std.specs.Prelude.{ℕ, zero, suc, Bool, true, false, Option, Some, None, option_map, if◌then◌else◌}
use Rattle.vkg_plan.specs.Plan.{Plan, Plans, Nil, More}

-- the others, if there is one
abbrev pub without_first : (Plan → Bool) → Plans → Option Plans
without_first test Nil = None
without_first test (More p ps) = if test p then Some ps else option_map (More p) (without_first test ps)

-- the test holds for the plan at a place, counted from 0
abbrev pub holds_at : (Plan → Bool) → ℕ → Plans → Bool
holds_at test at Nil = false
holds_at test zero (More p ps) = test p
holds_at test (suc at) (More p ps) = holds_at test at ps

-- the plans but for that one
abbrev pub without_at : ℕ → Plans → Plans
without_at at Nil = Nil
without_at zero (More p ps) = ps
without_at (suc at) (More p ps) = More p (without_at at ps)

-- there is one plan alone
abbrev pub is_lone : Plans → Bool
is_lone (More p Nil) = true
is_lone ps = false
