-- A database as contracts see it, and what a call makes of it.
use Rattle.std.specs.Prelude.{◌≡◌, ℕ, ◌+◌, ◌++◌, ◌∷◌, List, map, slice_set, slice_get, unwrap_or, Option, Some, Result, Ok, Err, ⊤, []}
use Rattle.std.specs.List.{AllByRecursion, AllZip}
use Rattle.std.specs.Option.{option_map_or}
use Rattle.vkg_cells.specs.declared.cell.Cell.{Cell}
use Rattle.vkg_schema.specs.declared.table.Table.{Table}
use Rattle.vkg_schema.specs.declared.table.Column.{Column}
pub use Rattle.vkg_schema.specs.Kinds.{columns_of}
use Rattle.vkg_schema.specs.Meets.{FitsColumn}
use Rattle.vkg_schema.specs.Rows.{Row, cell_at, rows_of}
use Rattle.vkg_tables.specs.TableFile.{table_of_bytes}
use Rattle.vkg_tables.specs.declared.fault.FileFault.{FileFault}
use Rattle.vkg_tables.specs.declared.fault.TableFault.{TableFault}
use Rattle.vkg_tables.specs.declared.fault.TableError.{TableError}
use Rattle.vkg_tables.specs.declared.fault.TableError.TheVariants as table_error

pub record Seen : Type 0 where
  pub schema : List Table
  pub tables : List (List (List Cell))

abbrev pub HoldsRows : Table → List Row → Type 0
HoldsRows table rows = AllByRecursion (AllZip FitsColumn table.columns) rows

-- each table has its rows; each cell is NULL or of its column's kind, and no NULL where its column has none
abbrev pub HoldsCells : List Table → List (List Row) → Type 0
HoldsCells tables db = AllZip HoldsRows tables db

abbrev pub without_rows : List Table → Seen
without_rows schema = record { schema = schema; tables = map (λ t. []) schema }

abbrev pub columns_at : Option Table → List Column
columns_at o = option_map_or (λ t. t.columns) o []

-- the cell at a place, and NULL where there is none
abbrev pub cell_of : Seen → ℕ → ℕ → ℕ → Cell
cell_of db table row column = cell_at (unwrap_or (slice_get (rows_of db.tables table) row) []) column

-- the database with these rows in place of those of a table
abbrev pub with_rows : Seen → ℕ → List Row → Seen
with_rows db table rows = record { schema = db.schema; tables = slice_set db.tables table rows }

-- the database with a row behind those of a table
abbrev pub with_row : Seen → ℕ → Row → Seen
with_row db table row = with_rows db table (rows_of db.tables table ++ row ∷ [])

-- tables count from 1 in a fault
abbrev pub placed : ℕ → FileFault → TableFault
placed table f = record { check = f.check; table = table + 1; row = f.row; column = f.column }

abbrev pub with_read : Seen → ℕ → Result (List Row) FileFault → Result Seen TableFault
with_read db table (Ok rows) = Ok (with_rows db table rows)
with_read db table (Err f) = Err (placed table f)

-- the database with the rows of a file in place of those of a table, or the first fault of the file
abbrev pub loaded : Seen → ℕ → List ℕ → Result Seen TableFault
loaded db table bytes = with_read db table (table_of_bytes (columns_of db.schema table) bytes)

-- the error is the fault that is defined, or a want of memory
abbrev pub FailsWith : {A : Type 0} → Result A TableFault → TableError → Type 0
FailsWith defined (table_error.Fault f) = defined ≡ Err f
FailsWith defined table_error.Memory = ⊤

-- the error is the fault that is there, or a want of memory
abbrev pub Tells : Option TableFault → TableError → Type 0
Tells found (table_error.Fault f) = found ≡ Some f
Tells found table_error.Memory = ⊤
