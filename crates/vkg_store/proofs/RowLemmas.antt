-- The rows and columns of stored tables, cell by cell.
use Rattle.std.proofs.Common.{◌≡◌, ◌∙◌, ◌+◌, ◌<◌, ◌∷◌, ℕ, zero, suc, List, [], Option, Some, None, refl, sym, ap, arith, length, map, take, slice_get}
use Rattle.std.specs.Prelude.{option_map, unwrap_or}
use Rattle.std.specs.List.{range_with_len}
use Rattle.std.proofs.lemmas.List.FromFn.{get_or-map-range_with_len, length-map-range_with_len}
use Rattle.std.proofs.lemmas.Option.{slice_get-get_or, slice_get-map}
use Rattle.vkg_cells.specs.declared.cell.Cell.{Cell}
use Rattle.vkg_cells.specs.declared.cell.Cell.TheVariants as cell
use Rattle.vkg_cells.specs.declared.cell.SqlType.TheVariants as kind
use Rattle.vkg_schema.specs.Rows.{cell_at}
use Rattle.vkg_store.specs.declared.stored_column.StoredColumn.{StoredColumn}
use Rattle.vkg_store.specs.Held.{held, table_held, whole}
use Rattle.vkg_store.specs.Stored.{ColumnNumbers, column_seen, number_at, row_at, rows_seen, stored, stored_at, table_seen}

pub seen-long : (texts : List (List ℕ)) (columns : List ColumnNumbers) (rows : ℕ) → length (rows_seen texts columns rows) ≡ rows
seen-long texts columns rows = length-map-range_with_len (row_at texts columns) 0 rows

pub column-long : (texts : List (List ℕ)) (column : ColumnNumbers) (rows : ℕ) → length (column_seen texts column rows) ≡ rows
column-long texts column rows = length-map-range_with_len (λ row. stored_at texts row column) 0 rows

-- the k-th of what a function gives of a range
range-at : {A : Type 0} (f : ℕ → A) (n k : ℕ) → k < n → slice_get (map f (range_with_len 0 n)) k ≡ Some (f k)
range-at f n k h =
    slice_get-get_or (map f (range_with_len 0 n)) k (f k) (omega (arith, h, length-map-range_with_len f 0 n))
    ∙ ap Some (get_or-map-range_with_len f 0 n k k (f k) h (omega arith))

number-taken : (n : ℕ) (ns : List ℕ) (row : ℕ) → row < n → number_at (take n ns) row ≡ number_at ns row
number-taken zero ns row h = absurd (omega (arith, h))
number-taken (suc n) [] row h = refl
number-taken (suc n) (m ∷ ns) zero h = refl
number-taken (suc n) (m ∷ ns) (suc row) h = number-taken n ns row (omega (arith, h))

row-whole : (texts : List (List ℕ)) (rows row : ℕ) (columns : List StoredColumn) → row < rows → row_at texts (map (held rows) columns) row ≡ row_at texts (map whole columns) row
row-whole texts rows row [] h = refl
row-whole texts rows row (c ∷ cs) h = λ i. stored texts c.kind (number-taken rows c.numbers.items row h i) ∷ row-whole texts rows row cs h i

pub row-there : (texts : List (List ℕ)) (rows row : ℕ) (columns : List StoredColumn) → row < rows → slice_get (table_seen texts (table_held rows columns)) row ≡ Some (row_at texts (map whole columns) row)
row-there texts rows row columns h = range-at (row_at texts (map (held rows) columns)) rows row h ∙ ap Some (row-whole texts rows row columns h)

pub cell-there : (texts : List (List ℕ)) (column : ColumnNumbers) (rows row : ℕ) → row < rows → slice_get (column_seen texts column rows) row ≡ Some (stored_at texts row column)
cell-there texts column rows row h = range-at (λ k. stored_at texts k column) rows row h

-- the cell of a column, where there is one
abbrev pub cell_of : List (List ℕ) → ℕ → Option StoredColumn → Cell
cell_of texts row None = cell.Null
cell_of texts row (Some c) = stored_at texts row (whole c)

pub cell-of-row : (texts : List (List ℕ)) (row : ℕ) (columns : List StoredColumn) (at : ℕ) (o : Option StoredColumn) → o ≡ slice_get columns at → cell_at (row_at texts (map whole columns) row) at ≡ cell_of texts row o
cell-of-row texts row columns at o e =
    ap (λ x. unwrap_or x cell.Null) (slice_get-map (stored_at texts row) (map whole columns) at ∙ ap (option_map (stored_at texts row)) (slice_get-map whole columns at ∙ ap (option_map whole) (sym e)))
    ∙ by o
  where
    by : (x : Option StoredColumn) → unwrap_or (option_map (stored_at texts row) (option_map whole x)) cell.Null ≡ cell_of texts row x
    by None = refl
    by (Some c) = refl

-- a column that is there, or one of NULL
abbrev pub column_or : Option StoredColumn → ColumnNumbers
column_or None = record { kind = kind.Text; numbers = [] }
column_or (Some c) = whole c

map-of-range : {A B : Type 0} (g : A → B) (f : ℕ → A) (h : ℕ → B) (a n : ℕ) → ((k : ℕ) → k < a + n → h k ≡ g (f k)) → map h (range_with_len a n) ≡ map g (map f (range_with_len a n))
map-of-range g f h a zero e = refl
map-of-range g f h a (suc n) e = λ i. e a (omega arith) i ∷ map-of-range g f h (a + 1) n (λ k l. e k (omega (arith, l))) i

pub column-is : (texts : List (List ℕ)) (rows : ℕ) (columns : List StoredColumn) (at : ℕ) (o : Option StoredColumn) → o ≡ slice_get columns at → column_seen texts (column_or o) rows ≡ map (λ row. cell_at row at) (table_seen texts (table_held rows columns))
column-is texts rows columns at o e =
    map-of-range (λ row. cell_at row at) (row_at texts (map (held rows) columns)) (λ k. stored_at texts k (column_or o)) 0 rows
    (λ k l. by k o ∙ sym (ap (λ row. cell_at row at) (row-whole texts rows k columns (omega (arith, l))) ∙ cell-of-row texts k columns at o e))
  where
    by : (k : ℕ) (x : Option StoredColumn) → stored_at texts k (column_or x) ≡ cell_of texts k x
    by k None = refl
    by k (Some c) = refl
