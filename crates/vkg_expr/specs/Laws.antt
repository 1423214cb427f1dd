-- What holds of the values of all expressions.
use Rattle.std.specs.Prelude.{◌≡◌, ℕ, List, Some, slice_get, true}
use Rattle.std.specs.List.{AllZip}
use Rattle.vkg_cells.specs.declared.cell.Cell.{Cell}
use Rattle.vkg_cells.specs.declared.cell.SqlType.{SqlType}
use Rattle.vkg_cells.specs.declared.cell.SqlType.TheVariants as kind
use Rattle.vkg_schema.specs.Rows.{Row, cell_at}
use Rattle.vkg_expr.specs.Expr.{Expr}
use Rattle.vkg_expr.specs.Typing.{fits, kind_of}

-- each cell is NULL or of its column's kind
abbrev pub FitsRow : List SqlType → Row → Type 0
FitsRow ks row = (at : ℕ) (k : SqlType) → slice_get ks at ≡ Some k → fits k (cell_at row at) ≡ true

-- a cell for each kind, NULL or of that kind
abbrev pub HasKinds : List SqlType → Row → Type 0
HasKinds ks row = AllZip (λ k c. fits k c ≡ true) ks row

-- over columns whose kinds the row's cells have, the cell is NULL or of the expression's kind
abbrev pub IsOfItsKind : Expr → Row → Cell → Type 0
IsOfItsKind e row c = (ks : List SqlType) (k : SqlType) → FitsRow ks row → kind_of e ks ≡ Some k → fits k c ≡ true

-- over columns of some kinds, which the row's cells have, the expression has a kind
pub record IsTyped (e : Expr) (row : Row) : Type 0 where
  pub kinds : List SqlType
  pub own : SqlType
  pub of_row : HasKinds kinds row
  pub of_expr : kind_of e kinds ≡ Some own

-- so, and that kind is a truth
pub record IsCondition (c : Expr) (row : Row) : Type 0 where
  pub kinds : List SqlType
  pub of_row : HasKinds kinds row
  pub of_expr : kind_of c kinds ≡ Some kind.Bool
