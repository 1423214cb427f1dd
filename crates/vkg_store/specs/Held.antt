-- Columns in memory: what they stand for, and what it is to put a cell or a row into them.
use Rattle.std.specs.Prelude.{◌≡◌, ◌≢◌, ◌≤◌, ◌⊎◌, ℕ, zero, suc, List, [], ◌∷◌, ◌++◌, length, map, take}
use Rattle.vkg_cells.specs.declared.cell.Cell.{Cell}
use Rattle.vkg_cells.specs.declared.cell.Cell.TheVariants as cell
use Rattle.vkg_cells.specs.declared.cell.SqlType.{SqlType}
use Rattle.vkg_cells.specs.declared.cell.SqlType.TheVariants as kind
use Rattle.vkg_cells.specs.Form.{IsOfKind}
use Rattle.vkg_schema.specs.declared.table.Column.{Column}
use Rattle.vkg_schema.specs.Rows.{Row}
use Rattle.vkg_store.specs.Stored.{ColumnNumbers, TableNumbers, stored}
use Rattle.vkg_store.specs.declared.stored_column.StoredColumn.{StoredColumn}

-- all numbers of a column
abbrev pub whole : StoredColumn → ColumnNumbers
whole column = record { kind = column.kind; numbers = column.numbers.items }

-- the first numbers of a column: one for each row
abbrev pub held : ℕ → StoredColumn → ColumnNumbers
held rows column = record { kind = column.kind; numbers = take rows column.numbers.items }

abbrev pub table_held : ℕ → List StoredColumn → TableNumbers
table_held rows columns = record { rows = rows; columns = map (held rows) columns }

-- there is a number for each row
abbrev pub HasRows : ℕ → StoredColumn → Type 0
HasRows rows column = rows ≤ length column.numbers.items

abbrev pub without_rows : Column → ColumnNumbers
without_rows column = record { kind = column.kind; numbers = [] }

-- NULL or a cell of the kind, which is one of a column
pub record FitsKind (k : SqlType) (c : Cell) : Type 0 where
  pub known : k ≢ kind.Term
  pub fits : (c ≡ cell.Null) ⊎ IsOfKind k c

-- the number stands for the cell, in a column of each kind that the cell fits
abbrev pub IsNumberOf : List (List ℕ) → Cell → ℕ → Type 0
IsNumberOf texts c number = (k : SqlType) → FitsKind k c → stored texts k number ≡ c

abbrev pub CanTake : ℕ → StoredColumn → Cell → Type 0
CanTake rows column c = HasRows rows column × FitsKind column.kind c

-- the rows of a column stay, whatever stands behind them
pub record KeepsRows (rows : ℕ) (old new : StoredColumn) : Type 0 where
  pub same : held rows new ≡ held rows old
  pub long : HasRows rows new

-- the number of the cell stands behind those of the rows, and nothing behind it
pub record IsPut (texts : List (List ℕ)) (rows : ℕ) (old : StoredColumn) (c : Cell) (new : StoredColumn) : Type 0 where
  pub number : ℕ
  pub kind : new.kind ≡ old.kind
  pub numbers : new.numbers.items ≡ take rows old.numbers.items ++ number ∷ []
  pub bound : number ≤ length texts
  pub stands : stored texts old.kind number ≡ c

-- the first n cells of a row are put into their columns, and the other columns stay
abbrev pub ArePut : List (List ℕ) → ℕ → ℕ → List StoredColumn → Row → List StoredColumn → Type 0
ArePut texts rows zero olds cells news = news ≡ olds
ArePut texts rows (suc n) (o ∷ os) (c ∷ cs) (d ∷ ds) = IsPut texts rows o c d × ArePut texts rows n os cs ds
ArePut texts rows (suc n) olds cells news = ⊥
