-- A node to which a rule does not apply, whatever plan of these columns stands on the left of the left join below it.
use Rattle.std.specs.Prelude.{◌≡◌, Option, None}
use Rattle.vkg_plan.specs.Kinds.{Tables, plan_kinds}
use Rattle.vkg_plan.specs.Plan.{Plan, Project, Left}
use Rattle.vkg_rules.specs.Steps.{Step}

-- what stands on the left of a left join that is itself on the left of one, or below a Project
abbrev pub inner : Plan → Plan
inner (Left (Left p q c) r d) = p
inner (Project es (Left p q c)) = p
inner p = p

-- the node with another plan there
abbrev pub with_inner : Plan → Plan → Plan
with_inner l (Left (Left p q c) r d) = Left (Left l q c) r d
with_inner l (Project es (Left p q c)) = Project es (Left l q c)
with_inner l p = p

abbrev pub Rests : Tables → (Plan → Option Step) → Plan → Type 0
Rests schema r p = (l : Plan) → plan_kinds schema l ≡ plan_kinds schema (inner p) → r (with_inner l p) ≡ None
