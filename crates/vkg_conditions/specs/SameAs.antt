-- An expression in the place of another: of its kind, and of its value on rows.
use Rattle.std.specs.Prelude.{◌≡◌, List, length}
use Rattle.vkg_cells.specs.declared.cell.SqlType.{SqlType}
use Rattle.vkg_schema.specs.Rows.{Row}
use Rattle.vkg_expr.specs.Expr.{Expr, Exprs, each}
use Rattle.vkg_expr.specs.Laws.{FitsRow}
use Rattle.vkg_expr.specs.Typing.{kind_of, kinds_of}
use Rattle.vkg_expr.specs.Value.{value_of, values_of}

-- of its kind over columns of these kinds, and of its value on such rows
pub record SameOn (On : Row → Type 0) (ks : List SqlType) (e d : Expr) : Type 0 where
  pub kind_kept : kind_of d ks ≡ kind_of e ks
  pub value : (row : Row) → On row → value_of d row ≡ value_of e row

-- and so for several
pub record SameEachOn (On : Row → Type 0) (ks : List SqlType) (es ds : Exprs) : Type 0 where
  pub kinds_kept : kinds_of ds ks ≡ kinds_of es ks
  pub as_many : length (each ds) ≡ length (each es)
  pub values : (row : Row) → On row → values_of ds row ≡ values_of es row

-- the rows are all of the columns' kinds
abbrev pub SameAs : List SqlType → Expr → Expr → Type 0
SameAs ks = SameOn (FitsRow ks) ks
