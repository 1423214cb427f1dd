-- SQL-92, 7.10, UNION without ALL: repeated rows are eliminated, so that a member equal to an earlier one adds nothing; the first such one is dropped.
use Rattle.std.specs.Prelude.{ℕ, zero, suc, List, [], ◌∷◌, ◌++◌, Bool, true, false, not, ◌&&◌, Option, Some, None, option_map, if◌then◌else◌}
use Rattle.std.specs.List.{list_any}
use Rattle.vkg_plan.specs.Plan.{Plan, Plans, UnionAll, Distinct, Nil, More, each}
use Rattle.vkg_rules.specs.declared.rewrite.Fell.TheVariants as fell
use Rattle.vkg_rules.specs.Steps.{Rule, Step}
use Rattle.vkg_unions.specs.SamePlan.{same_plan}

-- the plans without the first that is equal to an earlier one or to one of these
abbrev pub without_repeat : List Plan → Plans → Option Plans
without_repeat earlier Nil = None
without_repeat earlier (More p ps) =
    if list_any (λ q. same_plan q p) earlier then Some ps else option_map (More p) (without_repeat (earlier ++ p ∷ []) ps)

-- the distinct rows of all
abbrev pub distinct_union : Plans → Step
distinct_union ps = (Distinct (UnionAll ps), fell.Weight)

-- the distinct rows of a plan, if it is a union with such a member
abbrev pub members_once : Plan → Option Step
members_once (UnionAll ps) = option_map distinct_union (without_repeat [] ps)
members_once p = None

-- so of each Distinct
abbrev pub equal_members : Rule
equal_members schema (Distinct p) = members_once p
equal_members schema p = None

-- where one member is another than when the rule did not apply: no earlier one is equal to it, and it to no later one
abbrev pub is_alone : List Plan → ℕ → Plans → Bool
is_alone earlier at Nil = true
is_alone earlier zero (More p ps) = not (list_any (λ q. same_plan q p) earlier) && not (list_any (λ q. same_plan p q) (each ps))
is_alone earlier (suc at) (More p ps) = is_alone (earlier ++ p ∷ []) at ps

abbrev pub is_alone_at : List ℕ → Plans → Bool
is_alone_at [] ps = false
is_alone_at (at ∷ path) ps = is_alone [] at ps

abbrev pub stays_once : List ℕ → Plan → Bool
stays_once path (UnionAll ps) = is_alone_at path ps
stays_once path p = true

abbrev pub stays : List ℕ → Plan → Bool
stays path (Distinct p) = stays_once path p
stays path p = true
