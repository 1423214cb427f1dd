-- Columns behind the first n, and expressions that are NULL where those are.
use Rattle.std.specs.Prelude.{ℕ, Bool, ◌&&◌, nat_le}
use Rattle.std.specs.List.{list_any}
use Rattle.vkg_expr.specs.Expr.{Expr}
use Rattle.vkg_expr.specs.Strict.{columns, nulls_on_null}

-- it names a column behind the first n
abbrev pub names_behind : ℕ → Expr → Bool
names_behind n e = list_any (nat_le n) (columns e)

-- it is NULL on each row that has NULLs behind its first n cells
abbrev pub is_null_behind : ℕ → Expr → Bool
is_null_behind n e = nulls_on_null e && names_behind n e
