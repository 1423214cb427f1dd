-- What the rows of a table have, over a database that meets its schema.
use Rattle.std.proofs.Common.{◌≡◌, ◌∙◌, ◌⊎◌, inl, inr, ℕ, zero, suc, true, true≢false, not, List, [], ◌∷◌, Some, refl, sym, ap, subst, length}
use Rattle.std.specs.Prelude.{slice_get, unwrap_or}
use Rattle.std.specs.List.{AllZip, Contains}
use Rattle.vkg_lists.proofs.Each.{zip_get}
use Rattle.vkg_lists.proofs.Members.{each_from_recursion}
use Rattle.vkg_cells.specs.declared.cell.Cell.{Cell}
use Rattle.vkg_cells.specs.declared.cell.Cell.TheVariants as cell
use Rattle.vkg_cells.specs.declared.cell.SqlType.{SqlType}
use Rattle.vkg_cells.specs.Form.{IsOfKind}
use Rattle.vkg_schema.specs.declared.table.Column.{Column}
use Rattle.vkg_schema.specs.declared.table.Key.{Key}
use Rattle.vkg_schema.specs.declared.table.Table.{Table}
use Rattle.vkg_schema.specs.Meets.{FitsColumn, KeyHolds, MeetsSchema, TableMeets}
use Rattle.vkg_schema.specs.Rows.{Database, Row, cell_at, is_null, rows_of}
use Rattle.vkg_plan.specs.Kinds.{Tables}

pub table_meets : (s : Tables) (db : Database) → MeetsSchema s db → (at : ℕ) (table : Table) → slice_get s at ≡ Some table → TableMeets db table (rows_of db at)
table_meets s db m at table e =
    let z = zip_get (TableMeets db) s db at table m e in
    subst (TableMeets db table) (ap (λ o. unwrap_or o []) (sym z.1)) z.2

pub key_holds : (db : Database) (table : Table) (rows : List Row) → TableMeets db table rows → (key : Key) → Contains table.keys key → KeyHolds key rows
key_holds db table rows m key c = each_from_recursion (λ k. KeyHolds k rows) table.keys m.keys key c

pub row_fits : (db : Database) (table : Table) (rows : List Row) → TableMeets db table rows → (r : Row) → Contains rows r → AllZip FitsColumn table.columns r
row_fits db table rows m r c = each_from_recursion (AllZip FitsColumn table.columns) rows m.cells r c

-- ---- one cell

pub cell_fits : (columns : List Column) (row : Row) → AllZip FitsColumn columns row → (k : ℕ) (c : Column) → slice_get columns k ≡ Some c → FitsColumn c (cell_at row k)
cell_fits columns row h k c e =
    let z = zip_get FitsColumn columns row k c h e in
    subst (FitsColumn c) (ap (λ o. unwrap_or o cell.Null) (sym z.1)) z.2

-- a cell that is not NULL stands in a column
pub column_of : (columns : List Column) (row : Row) → AllZip FitsColumn columns row → (k : ℕ) → not (is_null (cell_at row k)) ≡ true → (c : Column) × (slice_get columns k ≡ Some c)
column_of [] [] h k n = absurd (true≢false (sym n))
column_of [] (x ∷ row) h k n = absurd h
column_of (c ∷ columns) [] h k n = absurd h
column_of (c ∷ columns) (x ∷ row) h zero n = (c, refl)
column_of (c ∷ columns) (x ∷ row) h (suc k) n = column_of columns row h.1 k n

pub known_of_kind : (k : SqlType) (c : Cell) → not (is_null c) ≡ true → (c ≡ cell.Null) ⊎ IsOfKind k c → IsOfKind k c
known_of_kind k c n (inl e) = absurd (true≢false (sym (ap (λ x. not (is_null x)) (sym e) ∙ n)))
known_of_kind k c n (inr h) = h

pub row_length : (columns : List Column) (row : Row) → AllZip FitsColumn columns row → length row ≡ length columns
row_length [] [] h = refl
row_length [] (x ∷ row) h = absurd h
row_length (c ∷ columns) [] h = absurd h
row_length (c ∷ columns) (x ∷ row) h = ap suc (row_length columns row h.1)
