-- Tables kept as columns of numbers of texts, and the rows that they stand for.
use Rattle.std.specs.Prelude.{◌≡◌, ◌≢◌, ℕ, zero, suc, ◌≤◌, List, [], ◌∷◌, ◌++◌, if◌then◌else◌, codes, length, map, slice_get, unwrap_or}
use Rattle.std.specs.List.{AllByRecursion, AllZip, list_any, range_with_len}
use Rattle.std.specs.Str.{bytes_eq}
use Rattle.vkg_cells.specs.declared.cell.Cell.{Cell}
use Rattle.vkg_cells.specs.declared.cell.Cell.TheVariants as cell
use Rattle.vkg_cells.specs.declared.cell.SqlType.{SqlType}
use Rattle.vkg_cells.specs.declared.cell.SqlType.TheVariants as kind
use Rattle.vkg_schema.specs.declared.table.Column.{Column}
use Rattle.vkg_schema.specs.Rows.{Row}

-- of each row the number of its cell
pub record ColumnNumbers : Type 0 where
  pub kind : SqlType
  pub numbers : List ℕ

pub record TableNumbers : Type 0 where
  pub rows : ℕ
  pub columns : List ColumnNumbers

-- R2RML, 10.2, natural RDF lexical form: the cell of a kind that has this form
abbrev pub form_cell : SqlType → List ℕ → Cell
form_cell kind.Text form = cell.Text form
form_cell kind.Int form = cell.Int form
form_cell kind.Dec form = cell.Dec form
form_cell kind.Bool form = cell.Bool (bytes_eq form (codes "true"))
form_cell kind.Date form = cell.Date form
form_cell kind.Stamp form = cell.Stamp form
form_cell kind.Bin form = cell.Bin form
form_cell kind.Time form = cell.Time form
form_cell kind.Term form = cell.Null

-- the number 0 is NULL, and n + 1 the cell whose form is the text n
abbrev pub stored : List (List ℕ) → SqlType → ℕ → Cell
stored texts k zero = cell.Null
stored texts k (suc n) = form_cell k (unwrap_or (slice_get texts n) [])

-- past the end there is NULL
abbrev pub number_at : List ℕ → ℕ → ℕ
number_at numbers row = unwrap_or (slice_get numbers row) 0

abbrev pub stored_at : List (List ℕ) → ℕ → ColumnNumbers → Cell
stored_at texts row column = stored texts column.kind (number_at column.numbers row)

abbrev pub row_at : List (List ℕ) → List ColumnNumbers → ℕ → Row
row_at texts columns row = map (stored_at texts row) columns

abbrev pub rows_seen : List (List ℕ) → List ColumnNumbers → ℕ → List Row
rows_seen texts columns rows = map (row_at texts columns) (range_with_len 0 rows)

-- the rows of a table
abbrev pub table_seen : List (List ℕ) → TableNumbers → List Row
table_seen texts table = rows_seen texts table.columns table.rows

-- the cells of a column of so many rows
abbrev pub column_seen : List (List ℕ) → ColumnNumbers → ℕ → List Cell
column_seen texts column rows = map (λ row. stored_at texts row column) (range_with_len 0 rows)

-- string interning: the text behind the others, unless it is there
abbrev pub interned : List (List ℕ) → List ℕ → List (List ℕ)
interned texts text = if list_any (bytes_eq text) texts then texts else texts ++ text ∷ []

-- the texts keep their numbers, and others may follow them
abbrev pub Extends : List (List ℕ) → List (List ℕ) → Type 0
Extends old new = (rest : List (List ℕ)) × (new ≡ old ++ rest)

-- a column of the schema is kept in so many numbers, each of a text that there is
pub record IsStoredColumn (texts : List (List ℕ)) (rows : ℕ) (column : Column) (kept : ColumnNumbers) : Type 0 where
  pub known : kept.kind ≢ kind.Term
  pub kind : kept.kind ≡ column.kind
  pub long : length kept.numbers ≡ rows
  pub numbers : AllByRecursion (λ n. n ≤ length texts) kept.numbers

-- each column of the schema is kept, in its place
abbrev pub IsStored : List (List ℕ) → List Column → TableNumbers → Type 0
IsStored texts columns table = AllZip (IsStoredColumn texts table.rows) columns table.columns
