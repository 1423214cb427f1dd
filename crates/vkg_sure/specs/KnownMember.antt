-- The rule: where a member of an And says of a column that it is not NULL, a test for NULL of that column in another member is false.
use Rattle.std.specs.Prelude.{ℕ, Bool, false, List, [], ◌∷◌, Option, None, nat_eq, option_and_then, option_map, if◌then◌else◌}
use Rattle.std.specs.Option.{option_map_or, option_or}
use Rattle.vkg_expr.specs.Expr.{Expr, And, IsNull, Not, each}
use Rattle.vkg_expr.specs.Logic.{and_of, truth_const}
use Rattle.vkg_expr.specs.Places.{first_place}
use Rattle.vkg_rules.specs.Steps.{Rule}
use Rattle.vkg_conditions.specs.Conditions.{if_so}
use Rattle.vkg_conditions.specs.SimplifyCondition.{first_conjunct}
use Rattle.vkg_equalities.specs.Recognised.{as_column}
use Rattle.vkg_nulls.specs.SimplifyNull.{changed_by}

-- SQL-92, 8.6: the column that is tested for NULL, and the one of which it is said that it is not
abbrev pub tested_column : Expr → Option ℕ
tested_column (IsNull e) = as_column e
tested_column e = None

abbrev pub said_column : Expr → Option ℕ
said_column (Not e) = tested_column e
said_column e = None

abbrev pub is_that : ℕ → Option ℕ → Bool
is_that at o = option_map_or (nat_eq at) o false

-- the test of a column is false
abbrev pub known_test : ℕ → Expr → Option Expr
known_test at e = if_so (is_that at (tested_column e)) (truth_const false)

-- at the first such test in a member that does not say so itself
abbrev pub told_in : ℕ → Expr → Option Expr
told_in at e = if is_that at (said_column e) then None else first_place (known_test at) e

-- all members, by what the first of some says that tells of another
abbrev pub told_by : List Expr → List Expr → Option (List Expr)
told_by all [] = None
told_by all (e ∷ es) = option_or (option_and_then (λ at. first_conjunct (told_in at) all) (said_column e)) (told_by all es)

-- SQL-92, 8.12: where the column is NULL the And is false either way
abbrev pub known_member_of : Expr → Option Expr
known_member_of (And es) = option_map and_of (told_by (each es) (each es))
known_member_of e = None

-- at the first such And in the plan's own expressions
unfoldable pub known_member : Rule
known_member schema p = changed_by known_member_of p
