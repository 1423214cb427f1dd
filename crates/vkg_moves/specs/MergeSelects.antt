-- A condition over a node that has a condition, and one of a node's member: both become one.
use Rattle.std.specs.Prelude.{ℕ, ◌+◌, Bool, true, false, not, Option, Some, None, option_map, if◌then◌else◌}
use Rattle.std.specs.Bool.{then_some}
use Rattle.std.specs.Option.{option_or}
use Rattle.vkg_expr.specs.Expr.{Expr}
use Rattle.vkg_expr.specs.Logic.{and_then}
use Rattle.vkg_expr.specs.Strict.{moved}
use Rattle.vkg_plan.specs.Kinds.{Tables, width}
use Rattle.vkg_plan.specs.Plan.{Plan, Plans, Select, Join, Left, Nil, More}
use Rattle.vkg_rules.specs.declared.rewrite.Fell.TheVariants as fell
use Rattle.vkg_rules.specs.Steps.{Rule, Step}
use Rattle.vkg_joins.specs.JoinInJoin.{Members, behind}
use Rattle.vkg_moves.specs.Columns.{names_behind}

-- the plan is a Select
abbrev pub is_select : Plan → Bool
is_select (Select c p) = true
is_select p = false

-- a plan, and a condition on its columns
abbrev pub Part : Type 0
Part = Plan × Expr

-- what a Select selects from, and its condition moved behind n columns
abbrev pub part_behind : ℕ → Plan → Option Part
part_behind n (Select c p) = Some (p, moved n c)
part_behind n p = None

-- this plan before others
abbrev pub before : Plans → Part → Members
before ps x = (More x.0 ps, x.1)

-- of members that stand behind n columns: what the first Select selects from in its place, and its condition
abbrev pub unselected : Tables → ℕ → Plans → Option Members
unselected schema n Nil = None
unselected schema n (More p ps) = option_or (option_map (before ps) (part_behind n p)) (option_map (behind p) (unselected schema (n + width schema p) ps))

-- SQL-92, 7.6, WHERE, over a node with a condition: both are to hold, the inner one is named first. Over a left join (7.5), whose condition says which
-- right rows a left row is with: a condition on the left columns alone selects left rows.
abbrev pub over_condition : Tables → Expr → Plan → Option Step
over_condition schema c (Select d p) = Some (Select (and_then d c) p, fell.Weight)
over_condition schema c (Join ps d) = Some (Join ps (and_then d c), fell.Weight)
over_condition schema c (Left p q d) = then_some (not (names_behind (width schema p) c)) (Left (Select c p) q d, fell.Weight)
over_condition schema c p = None

-- so of each Select; and of a Join with a Select among its members (7.4 and 7.6), and of a left join with one on its right (7.5)
abbrev pub merge_selects : Rule
merge_selects schema (Select c p) = over_condition schema c p
merge_selects schema (Join ps c) = option_map (λ x. (Join x.0 (and_then x.1 c), fell.Weight)) (unselected schema 0 ps)
merge_selects schema (Left p q c) = option_map (λ x. (Left p x.0 (and_then x.1 c), fell.Weight)) (part_behind (width schema p) q)
merge_selects schema p = None

-- ---- a Select over a Select or a Join that is taken apart

-- the plan is a Select or a Join
abbrev pub has_condition : Plan → Bool
has_condition (Select c p) = true
has_condition (Join ps c) = true
has_condition p = false

-- it selects from one of them
abbrev pub is_over_condition : Plan → Bool
is_over_condition (Select c p) = has_condition p
is_over_condition p = false

-- One of them under its condition and then another. Other plans, which are not asked for, stay.
abbrev pub under_both : Expr → Plan → Plan
under_both c (Select d p) = Select (and_then d c) p
under_both c (Join ps d) = Join ps (and_then d c)
under_both c p = p

abbrev pub merged : Plan → Plan
merged (Select c p) = under_both c p
merged p = p

-- ---- a Join of which a Select among the members is taken apart

-- the condition of the first Select, over the columns of all members
abbrev pub first_condition : Tables → Plans → Option Expr
first_condition schema ps = option_map (λ x. x.1) (unselected schema 0 ps)

abbrev pub member_condition : Tables → Plan → Option Expr
member_condition schema (Join ps c) = first_condition schema ps
member_condition schema p = None

-- what a Select selects from
abbrev pub below : Plan → Plan
below (Select c p) = p
below p = p

-- so of the first Select among the members
abbrev pub first_below : Plans → Plans
first_below Nil = Nil
first_below (More p ps) = if is_select p then More (below p) ps else More p (first_below ps)

-- The Join over that, under a condition and then its own. Other plans, which have no member, stay.
abbrev pub opened : Expr → Plan → Plan
opened d (Join ps c) = Join (first_below ps) (and_then d c)
opened d p = p
