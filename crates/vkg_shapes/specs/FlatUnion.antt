-- A UnionAll among the members of a UnionAll, and a UnionAll of one member.
use Rattle.std.specs.Prelude.{ℕ, List, [], ◌∷◌, Bool, true, false, not, ◌&&◌, Option, Some, None, option_map, if◌then◌else◌}
use Rattle.vkg_plan.specs.Plan.{Plan, Plans, UnionAll, Nil, More}
use Rattle.vkg_rules.specs.declared.rewrite.Fell.TheVariants as fell
use Rattle.vkg_rules.specs.Places.{before_all}
use Rattle.vkg_rules.specs.Steps.{Rule, Step}
use Rattle.vkg_shapes.specs.Without.{holds_at, is_lone}

-- the plan is a UnionAll
abbrev pub is_union : Plan → Bool
is_union (UnionAll ps) = true
is_union p = false

-- its members
abbrev pub members : Plan → Plans
members (UnionAll ps) = ps
members p = Nil

-- the members of the first UnionAll in its place, if there is one
abbrev pub opened : Plans → Option Plans
opened Nil = None
opened (More p ps) = if is_union p then Some (before_all (members p) ps) else option_map (More p) (opened ps)

-- SQL-92, 7.10, UNION ALL: a union of one is that one, and in a union of more the first UnionAll is opened
abbrev pub flat_members : Plans → Option Step
flat_members (More p Nil) = Some (p, fell.Weight)
flat_members ps = option_map (λ qs. (UnionAll qs, fell.Weight)) (opened ps)

-- so of each UnionAll
abbrev pub flat_union : Rule
flat_union schema (UnionAll ps) = flat_members ps
flat_union schema p = None

-- where one member is another than when the rule did not apply: that one is no UnionAll, and not alone
abbrev pub stays_flat : List ℕ → Plans → Bool
stays_flat [] ps = false
stays_flat (at ∷ path) ps = not (is_lone ps) && not (holds_at is_union at ps)

abbrev pub stays : List ℕ → Plan → Bool
stays path (UnionAll ps) = stays_flat path ps
stays path p = true
