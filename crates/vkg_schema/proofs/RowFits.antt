-- The rows of a database that meets its schema.
use Rattle.std.proofs.Common.{◌≡◌, ℕ, zero, suc, List, [], ◌∷◌, Some, refl}
use Rattle.std.specs.Prelude.{Contains, slice_get}
use Rattle.std.specs.List.{AllZip}
use Rattle.vkg_lists.proofs.Members.{Contains-none, each_from_recursion}
use Rattle.vkg_schema.specs.declared.table.Table.{Table}
use Rattle.vkg_schema.specs.Meets.{FitsColumn, TableMeets}
use Rattle.vkg_schema.specs.Rows.{Database, Row, rows_of}

-- a row is of a table, and fits its columns
pub row_of_table : (whole : Database) (tables : List Table) (db : Database) → AllZip (TableMeets whole) tables db → (k : ℕ) (row : Row) → Contains (rows_of db k) row →
    (table : Table) × (slice_get tables k ≡ Some table) × AllZip FitsColumn table.columns row
row_of_table whole [] [] h k row c = absurd (Contains-none row c)
row_of_table whole [] (rs ∷ rss) h k row c = absurd h
row_of_table whole (t ∷ ts) [] h k row c = absurd h
row_of_table whole (t ∷ ts) (rs ∷ rss) h zero row c = (t, refl, each_from_recursion (AllZip FitsColumn t.columns) rs h.0.cells row c)
row_of_table whole (t ∷ ts) (rs ∷ rss) h (suc k) row c = row_of_table whole ts rss h.1 k row c
