-- An Empty under a node: the node has no rows either, or only its other parts count.
use Rattle.std.specs.Prelude.{ℕ, List, [], ◌∷◌, Bool, true, false, not, ◌||◌, ◌&&◌, Option, Some, None, if◌then◌else◌}
use Rattle.vkg_plan.specs.Kinds.{Kinds, plan_kinds}
use Rattle.vkg_plan.specs.Plan.{Plan, Plans, Empty, Select, Project, Join, Left, UnionAll, Distinct, Nil, More}
use Rattle.vkg_rules.specs.declared.rewrite.Fell.TheVariants as fell
use Rattle.vkg_rules.specs.Steps.{Rule, Step}
use Rattle.vkg_shapes.specs.Parts.{emptied, padded}
use Rattle.vkg_shapes.specs.Without.{holds_at, is_lone, without_first}

-- the plan of no rows
abbrev pub is_nothing : Plan → Bool
is_nothing (Empty ks) = true
is_nothing p = false

-- one of the plans is
abbrev pub any_nothing : Plans → Bool
any_nothing Nil = false
any_nothing (More p ps) = is_nothing p || any_nothing ps

-- what is left of the members of a UnionAll of these kinds
abbrev pub united : Option Kinds → Option Plans → Option Step
united o None = None
united o (Some Nil) = emptied o
united o (Some (More p ps)) = Some (UnionAll (More p ps), fell.Weight)

-- SQL-92, 7.5, 7.6 and 7.10: of no rows there are no pairs, no selected and no projected rows; a left row with no right one has NULLs
abbrev pub propagate_empty : Rule
propagate_empty schema (Select c p) = if is_nothing p then emptied (plan_kinds schema (Select c p)) else None
propagate_empty schema (Project es p) = if is_nothing p then emptied (plan_kinds schema (Project es p)) else None
propagate_empty schema (Join ps c) = if any_nothing ps then emptied (plan_kinds schema (Join ps c)) else None
propagate_empty schema (Left p q c) =
    if is_nothing p then emptied (plan_kinds schema (Left p q c)) else (if is_nothing q then padded (plan_kinds schema p) (plan_kinds schema q) p else None)
propagate_empty schema (UnionAll ps) = united (plan_kinds schema (UnionAll ps)) (without_first is_nothing ps)
propagate_empty schema (Distinct p) = if is_nothing p then emptied (plan_kinds schema (Distinct p)) else None
propagate_empty schema p = None

-- where one member is another than when the rule did not apply: that one is dropped, if it is Empty and not alone
abbrev pub dropped_from : List ℕ → Plans → Option ℕ
dropped_from [] ps = None
dropped_from (at ∷ path) ps = if not (is_lone ps) && holds_at is_nothing at ps then Some at else None

abbrev pub dropped_at : List ℕ → Plan → Option ℕ
dropped_at path (UnionAll ps) = dropped_from path ps
dropped_at path p = None

-- and if it is not Empty, none is
abbrev pub stays_among : List ℕ → Plans → Bool
stays_among [] ps = false
stays_among (at ∷ path) ps = not (holds_at is_nothing at ps)

abbrev pub stays : List ℕ → Plan → Bool
stays path (UnionAll ps) = stays_among path ps
stays path p = false
