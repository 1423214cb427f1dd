-- A selection over a left join that no row with NULLs for the right row passes: a selection over the join.
use Rattle.std.specs.Prelude.{ℕ, Bool, false, ◌||◌, Option, None}
use Rattle.std.specs.Bool.{then_some}
use Rattle.std.specs.List.{list_any}
use Rattle.vkg_expr.specs.Expr.{Expr, IsNull, Not, Same}
use Rattle.vkg_expr.specs.Logic.{conjuncts}
use Rattle.vkg_plan.specs.Kinds.{Tables, width}
use Rattle.vkg_plan.specs.Plan.{Plan, Select, Join, Left, Nil, More}
use Rattle.vkg_rules.specs.declared.rewrite.Fell.TheVariants as fell
use Rattle.vkg_rules.specs.Steps.{Rule, Step}
use Rattle.vkg_moves.specs.Columns.{is_null_behind}
use Rattle.vkg_moves.specs.Unknown.{is_unknown_behind}

-- SQL-92, 8.6, a test for NULL that is true where the cells behind the first n are NULL
abbrev pub finds_null : ℕ → Expr → Bool
finds_null n (IsNull e) = is_null_behind n e
finds_null n e = false

-- a condition that is not true there: something is not NULL, or is equal to something (8.2), or it is unknown
abbrev pub fails_on_nulls : ℕ → Expr → Bool
fails_on_nulls n (Not e) = finds_null n e || is_unknown_behind n e
fails_on_nulls n (Same a b) = is_null_behind n a || is_null_behind n b
fails_on_nulls n c = is_unknown_behind n c

-- SQL-92, 7.5: a left join without the rows that are with NULLs is the join
abbrev pub over_left : Tables → Expr → Plan → Option Step
over_left schema c (Left p q d) = then_some (list_any (fails_on_nulls (width schema p)) (conjuncts c)) (Select c (Join (More p (More q Nil)) d), fell.Weight)
over_left schema c p = None

-- so of each Select
abbrev pub left_to_join : Rule
left_to_join schema (Select c p) = over_left schema c p
left_to_join schema p = None
