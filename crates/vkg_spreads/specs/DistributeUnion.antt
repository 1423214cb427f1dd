-- A node over a UnionAll becomes the UnionAll of the node over each member.
use Rattle.std.specs.Prelude.{ℕ, ◌+◌, ◌*◌, max, Bool, nat_le, length, Option, Some, None, is_some, option_map, if◌then◌else◌}
use Rattle.std.specs.Option.{option_or}
use Rattle.vkg_plan.specs.Plan.{Plan, Plans, Select, Project, Join, Left, UnionAll, Distinct, Nil, More, each}
use Rattle.vkg_rules.specs.declared.rewrite.Fell.TheVariants as fell
use Rattle.vkg_rules.specs.Steps.{Rule, Step}

-- the members of a UnionAll
abbrev pub union_members : Plan → Option Plans
union_members (UnionAll us) = Some us
union_members p = None

-- those of the first UnionAll of a list
abbrev pub first_union : Plans → Option Plans
first_union Nil = None
first_union (More p ps) = option_or (union_members p) (first_union ps)

-- how many members a UnionAll has; 1 of any other plan
abbrev pub members : Plan → ℕ
members (UnionAll us) = length (each us)
members p = 1

-- how many plans come of one where each UnionAll in it gives way to one of its members; no member counts as one
abbrev mutual
  pub branches : Plan → ℕ
  branches (Select c p) = branches p
  branches (Project es p) = branches p
  branches (Distinct p) = branches p
  branches (Join ps c) = branches_product ps
  branches (Left p q c) = branches p * branches q
  branches (UnionAll us) = max 1 (branches_sum us)
  branches p = 1

  pub branches_product : Plans → ℕ
  branches_product Nil = 1
  branches_product (More p ps) = branches p * branches_product ps

  pub branches_sum : Plans → ℕ
  branches_sum Nil = 0
  branches_sum (More p ps) = branches p + branches_sum ps

-- at most so many nodes are made of one
abbrev pub are_few : ℕ → Bool
are_few n = nat_le n 64

-- the members of the UnionAll over which a node is distributed, if it is over one
abbrev pub union_under : Plan → Option Plans
union_under (Select c p) = union_members p
union_under (Project es p) = union_members p
union_under (Join ps c) = if are_few (branches_product ps) then first_union ps else None
union_under (Left p q c) = if are_few (members p) then union_members p else None
union_under p = None

-- the plans with this one in the place of their first UnionAll
abbrev pub in_place : Plan → Plans → Plans
in_place x Nil = Nil
in_place x (More p ps) = if is_some (union_members p) then More x ps else More p (in_place x ps)

-- a node with another plan in the place of that UnionAll
abbrev pub over : Plan → Plan → Plan
over (Select c p) x = Select c x
over (Project es p) x = Project es x
over (Join ps c) x = Join (in_place x ps) c
over (Left p q c) x = Left x q c
over p x = x

-- the same with each of some plans
abbrev pub over_each : Plan → Plans → Plans
over_each p Nil = Nil
over_each p (More u us) = More (over p u) (over_each p us)

-- the UnionAll of them
abbrev pub union_over : Plan → Plans → Step
union_over p us = (UnionAll (over_each p us), fell.Weight)

-- SQL-92, 7.10, UNION ALL: a union has the rows of each member, so that what looks at each row alone, or at each pair, may look at each member
abbrev pub distribute_union : Rule
distribute_union schema p = option_map (union_over p) (union_under p)
