-- The plan after a step, or the plan itself where there is none, and where to look for the next one.
use Rattle.std.specs.Prelude.{◌≡◌, ℕ, List, [], ◌∷◌, Option, Some, None, reverse}
use Rattle.vkg_plan.specs.Plan.{Plan, Plans}
use Rattle.vkg_rules.specs.declared.rewrite.Fell.{Fell}
use Rattle.vkg_rules.specs.Everywhere.{everywhere, in_members, inside}
use Rattle.vkg_rules.specs.Places.{DiffersAt, Others, outcome, with_member}
use Rattle.vkg_rules.specs.Steps.{ListStep, Step}
use Rattle.vkg_steps.specs.Behind.{Behind, BehindEach}

abbrev pub list_outcome : Plans → Option ListStep → Plans × Option Fell
list_outcome ps None = (ps, None)
list_outcome ps (Some x) = (x.0, Some x.1)

-- the first list is the second but for a place
abbrev pub DifferAt : List ℕ → Plans → Plans → Type 0
DifferAt [] ps qs = Unit {0}
DifferAt (at ∷ path) ps qs = (y : Others) × (with_member at path y qs ≡ ps)

-- q is p after a step at the first subplan that the rule changes; it differs from p at the place alone, whose last turn comes first, and
-- nothing is left to do before it
abbrev pub IsStep : (Plan → Option Step) → Plan → Plan → Option Fell → List ℕ → Type 0
IsStep r p q fell place = ((q, fell) ≡ outcome p (everywhere r p)) × Behind r (reverse place) q × DiffersAt (reverse place) p q

-- the same below the root, and in a list of members
abbrev pub IsInside : (Plan → Option Step) → Plan → Plan → Option Fell → List ℕ → Type 0
IsInside r p q fell place = ((q, fell) ≡ outcome p (inside r p)) × Behind r (reverse place) q × DiffersAt (reverse place) p q

abbrev pub IsListStep : (Plan → Option Step) → Plans → Plans → Option Fell → List ℕ → Type 0
IsListStep r ps qs fell place = ((qs, fell) ≡ list_outcome ps (in_members r ps)) × BehindEach r (reverse place) qs × DifferAt (reverse place) ps qs

-- where to look after a change of the root, that was reached on a way to a place: where a member was dropped there, if so it was
abbrev pub IsFirst : ℕ → List ℕ → Type 0
IsFirst at [] = ⊥
IsFirst at (n ∷ path) = n ≡ at

abbrev pub IsNext : List ℕ → Option ℕ → List ℕ → Type 0
IsNext path dropped [] = Unit {0}
IsNext path dropped (at ∷ []) = (dropped ≡ Some at) × IsFirst at path
IsNext path dropped (at ∷ n ∷ more) = ⊥
