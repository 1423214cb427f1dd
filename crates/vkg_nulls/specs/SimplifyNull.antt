-- The rule: tests for NULL become tests of single columns that may be NULL, one step at a time.
use Rattle.std.specs.Prelude.{Bool, List, Option, option_map}
use Rattle.std.specs.Option.{option_or}
use Rattle.vkg_expr.specs.Expr.{Expr}
use Rattle.vkg_expr.specs.Places.{first_place}
use Rattle.vkg_plan.specs.Plan.{Plan}
use Rattle.vkg_rules.specs.Steps.{Rule, Step}
use Rattle.vkg_conditions.specs.Cases.{smaller}
use Rattle.vkg_conditions.specs.SimplifyCondition.{in_own}
use Rattle.vkg_nulls.specs.KnownColumns.{own_known}
use Rattle.vkg_nulls.specs.NullTests.{known_column, of_constant, of_strict}

-- a change at the first place of the plan's own expressions
abbrev pub changed_by : (Expr → Option Expr) → Plan → Option Step
changed_by f p = option_map smaller (in_own f p)

-- the first listed change that applies anywhere in the plan's own expressions, at its first place
unfoldable pub simplify_null : Rule
simplify_null schema p = option_or (changed_by (known_column (own_known schema p)) p) (option_or (changed_by of_constant p) (changed_by of_strict p))

-- so of a condition on columns of which some are never NULL
abbrev pub null_in : List Bool → Expr → Option Expr
null_in known c = option_or (first_place (known_column known) c) (option_or (first_place of_constant c) (first_place of_strict c))
