-- What flags and conditions tell of one column, by its place.
use Rattle.std.specs.Prelude.{ℕ, zero, suc, Bool, false, ◌&&◌, ◌||◌, List, [], ◌∷◌, nat_eq}
use Rattle.std.specs.List.{list_any}
use Rattle.vkg_expr.specs.Expr.{Expr, Same, IsNull, Not}
use Rattle.vkg_expr.specs.Strict.{columns, nulls_on_null}
use Rattle.vkg_sure.specs.declared.told.Told.{Told}
use Rattle.vkg_sure.specs.declared.told.Told.TheVariants as told

-- the flag of a column; past the last one, its place among the columns behind
abbrev pub told_at : List Bool → ℕ → Told
told_at [] at = told.Behind at
told_at (f ∷ fs) zero = told.Here f
told_at (f ∷ fs) (suc at) = told_at fs at

abbrev pub is_set : Told → Bool
is_set (told.Here b) = b
is_set (told.Behind at) = false

-- told by the columns, or else by those behind them
abbrev pub or_behind : Told → (ℕ → Told) → Told
or_behind (told.Here b) f = told.Here b
or_behind (told.Behind at) f = f at

-- none of the columns is set
abbrev pub unsaid : Told → Told
unsaid (told.Here b) = told.Here false
unsaid (told.Behind at) = told.Behind at

-- set by itself, or by something else
abbrev pub or_set : Told → Bool → Told
or_set (told.Here b) c = told.Here (b || c)
or_set (told.Behind at) c = told.Behind at

-- set by itself, and by something else
abbrev pub and_set : Told → Bool → Told
and_set (told.Here b) c = told.Here (b && c)
and_set (told.Behind at) c = told.Behind at

-- SQL-92, 8.6: the expression is NULL where the column is
abbrev pub names : ℕ → Expr → Bool
names at e = nulls_on_null e && list_any (nat_eq at) (columns e)

abbrev pub is_tested : ℕ → Expr → Bool
is_tested at (IsNull e) = names at e
is_tested at e = false

-- SQL-92, 8.2: the conjunct says that the column is not NULL
abbrev pub says : ℕ → Expr → Bool
says at (Same a b) = names at a || names at b
says at (Not e) = is_tested at e
says at c = false
