-- What the places of Scans of the program stand for.
use Rattle.std.specs.Prelude.{ℕ, ◌+◌, List, [], ◌∷◌, map, take, drop}
use Rattle.vkg_plan.specs.declared.plan.Plan.{Plan as PlanValue}
use Rattle.vkg_plan.specs.Plan.{Plan, Scan}
use Rattle.vkg_plan.specs.Seen.{plan_seen}
use Rattle.vkg_keys.specs.declared.scanning.ScanAt.{ScanAt}
use Rattle.vkg_keys.specs.Members.{Place}

-- among these plans
abbrev pub place_in : List PlanValue → ScanAt → Place
place_in ps x = record { before = map plan_seen (take x.at ps); table = x.table; after = map plan_seen (drop (x.at + 1) ps) }

-- the place, if a Scan stands there
abbrev pub scan_if : ℕ → Plan → List ScanAt
scan_if at (Scan table) = record { at = at; table = table } ∷ []
scan_if at p = []
