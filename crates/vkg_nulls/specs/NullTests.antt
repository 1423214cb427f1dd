-- What a test for NULL becomes, at its root.
use Rattle.std.specs.Prelude.{ℕ, Bool, false, ◌&&◌, not, List, Option, Some, None, map, nat_eq, slice_get, unwrap_or}
use Rattle.vkg_lists.specs.Sets.{distinct}
use Rattle.vkg_schema.specs.Rows.{is_null}
use Rattle.vkg_expr.specs.Expr.{Expr, Col, Const, IsNull}
use Rattle.vkg_expr.specs.Logic.{or_of, truth_const}
use Rattle.vkg_expr.specs.Strict.{columns, is_strict}
use Rattle.vkg_expr.specs.Typing.{is_column}
use Rattle.vkg_conditions.specs.Conditions.{if_so}

-- the flag of a column, and false past the last one
abbrev pub flag_at : List Bool → ℕ → Bool
flag_at flags at = unwrap_or (slice_get flags at) false

-- a column that is never NULL is not
abbrev pub known_column : List Bool → Expr → Option Expr
known_column flags (IsNull (Col at)) = if_so (flag_at flags at) (truth_const false)
known_column flags e = None

-- SQL-92, 8.6: a constant is NULL or not
abbrev pub of_constant : Expr → Option Expr
of_constant (IsNull (Const c k)) = Some (truth_const (is_null c))
of_constant e = None

abbrev pub null_test : ℕ → Expr
null_test at = IsNull (Col at)

-- one of the expression's columns is NULL, each of them asked once
abbrev pub any_tested : Expr → Expr
any_tested e = or_of (map null_test (distinct nat_eq (columns e)))

-- what is strict and no column itself is NULL where one of its columns is
abbrev pub of_strict : Expr → Option Expr
of_strict (IsNull e) = if_so (not (is_column e) && is_strict e) (any_tested e)
of_strict e = None
