-- A Join among the members of a Join: its members and its condition become those of the Join around it.
use Rattle.std.specs.Prelude.{ℕ, ◌+◌, ◌++◌, Bool, true, false, Option, Some, None, option_map}
use Rattle.std.specs.Option.{option_or}
use Rattle.vkg_expr.specs.Expr.{Expr}
use Rattle.vkg_expr.specs.Logic.{and_then}
use Rattle.vkg_expr.specs.Strict.{moved}
use Rattle.vkg_plan.specs.Kinds.{Tables, width}
use Rattle.vkg_plan.specs.Plan.{Plan, Plans, Join, Nil, More, each, plans}
use Rattle.vkg_rules.specs.declared.rewrite.Fell.TheVariants as fell
use Rattle.vkg_rules.specs.Steps.{Rule}

-- the plan is a Join
abbrev pub is_join : Plan → Bool
is_join (Join ps c) = true
is_join p = false

-- members, and a condition on their columns
abbrev pub Members : Type 0
Members = Plans × Expr

-- the members of a Join, and its condition moved behind n columns
abbrev pub parts_behind : ℕ → Plan → Option Members
parts_behind n (Join ps c) = Some (ps, moved n c)
parts_behind n p = None

-- these members before others
abbrev pub before : Plans → Members → Members
before ps x = (plans (each x.0 ++ each ps), x.1)

-- these members behind another
abbrev pub behind : Plan → Members → Members
behind p x = (More p x.0, x.1)

-- of members that stand behind n columns: the first Join's members in its place, and its condition
abbrev pub opened : Tables → ℕ → Plans → Option Members
opened schema n Nil = None
opened schema n (More p ps) = option_or (option_map (before ps) (parts_behind n p)) (option_map (behind p) (opened schema (n + width schema p) ps))

-- SQL-92, 7.4, FROM, and 7.6, WHERE: a product of products is one product, in which both conditions are to hold
abbrev pub join_in_join : Rule
join_in_join schema (Join ps c) = option_map (λ x. (Join x.0 (and_then x.1 c), fell.Weight)) (opened schema 0 ps)
join_in_join schema p = None
