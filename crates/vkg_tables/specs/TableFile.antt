-- A table file: its faults in the order in which they are told, and its rows.
use Rattle.std.specs.Prelude.{ℕ, ◌==◌, ◌&&◌, List, [], ◌∷◌, ◌++◌, Result, Ok, Err, if◌then◌else◌, length, map, nat_lt, count_by, slice_get}
use Rattle.std.specs.List.{enumerate_from, flat_map, list_any, position_or_len}
use Rattle.std.specs.Result.{result_unwrap_or}
use Rattle.std.specs.Str.{bytes_eq, is_utf8}
use Rattle.vkg_lists.specs.Results.{unless}
use Rattle.csv.specs.Reading.{default_config, records, strip_bom}
use Rattle.vkg_cells.specs.declared.cell.Cell.{Cell}
use Rattle.vkg_cells.specs.declared.cell.Cell.TheVariants.{Null}
use Rattle.vkg_cells.specs.declared.cell.FieldFault.{FieldFault}
use Rattle.vkg_cells.specs.declared.cell.FieldFault.TheVariants.{TooWide}
use Rattle.vkg_schema.specs.declared.table.Column.{Column}
use Rattle.vkg_schema.specs.Rows.{Row, is_null}
use Rattle.vkg_tables.specs.Field.{cell_of_csv, field_of}
use Rattle.vkg_tables.specs.declared.fault.FileFault.{FileFault}
use Rattle.vkg_tables.specs.declared.load.TheConstants.{MOST_BYTES}

-- a check that fails at a row and a column, which count from 1; the header is row 0
abbrev pub fault : ℕ → ℕ → ℕ → FileFault
fault check row column = record { check = check; row = row; column = column }

-- RFC 4180, 2 (3): the field of a record that stands under the column's name in the header
abbrev pub field_under : List (List ℕ) → List (List ℕ) → Column → List ℕ
field_under header fields column = field_of fields (position_or_len (λ f. bytes_eq f column.name) header)

-- T08 a number too wide, T06 another bad value
abbrev pub value_check : FieldFault → ℕ
value_check TooWide = 8
value_check e = 6

-- T07: NULL where the column has none
abbrev pub faults_of_read : Column → ℕ → ℕ → Result Cell FieldFault → List FileFault
faults_of_read column row place (Ok c) = if is_null c && column.not_null then fault 7 row place ∷ [] else []
faults_of_read column row place (Err e) = fault (value_check e) row place ∷ []

abbrev pub field_faults : Column → ℕ → ℕ → List ℕ → List FileFault
field_faults column row place text = faults_of_read column row place (cell_of_csv column.kind text)

-- T04: another number of fields than the header has; else field by field, in the order of the schema's columns
abbrev pub row_faults : List (List ℕ) → List Column → ℕ → List (List ℕ) → List FileFault
row_faults header columns row fields =
    if length fields == length header then flat_map (λ c. field_faults c.1 row c.0 (field_under header fields c.1)) (enumerate_from 1 columns)
    else fault 4 row 0 ∷ []

-- T02: a field of the header is no column's name
abbrev pub unknown_faults : List Column → List (List ℕ) → List FileFault
unknown_faults columns header = flat_map (λ f. if list_any (λ c. bytes_eq c.name f.1) columns then [] else fault 2 0 f.0 ∷ []) (enumerate_from 1 header)

-- T03: a column that the header does not name once
abbrev pub not_once_faults : List Column → List (List ℕ) → List FileFault
not_once_faults columns header = flat_map (λ c. if count_by (λ f. bytes_eq f c.1.name) header == 1 then [] else fault 3 0 c.0 ∷ []) (enumerate_from 1 columns)

-- T01: there is no header
abbrev pub record_faults : List Column → List (List (List ℕ)) → List FileFault
record_faults columns [] = fault 1 0 0 ∷ []
record_faults columns (header ∷ rows) =
    unknown_faults columns header ++ (not_once_faults columns header ++ flat_map (λ r. row_faults header columns r.0 r.1) (enumerate_from 1 rows))

-- T11: more than 2147483647 bytes; T05: not UTF-8 (RFC 3629)
abbrev pub file_faults : List Column → List ℕ → List FileFault
file_faults columns bytes =
    if nat_lt MOST_BYTES (length bytes) then fault 11 0 0 ∷ []
    else if is_utf8 bytes then record_faults columns (records default_config (strip_bom bytes))
    else fault 5 0 0 ∷ []

abbrev pub cell_or_null : Result Cell FieldFault → Cell
cell_or_null r = result_unwrap_or r Null

abbrev pub row_of : List (List ℕ) → List Column → List (List ℕ) → Row
row_of header columns fields = map (λ column. cell_or_null (cell_of_csv column.kind (field_under header fields column))) columns

abbrev pub rows_of_records : List Column → List (List (List ℕ)) → List Row
rows_of_records columns [] = []
rows_of_records columns (header ∷ rows) = map (row_of header columns) rows

-- the records under the header in their order, each as the cells of the schema's columns
abbrev pub file_rows : List Column → List ℕ → List Row
file_rows columns bytes = rows_of_records columns (records default_config (strip_bom bytes))

-- the rows of a file, or its first fault
abbrev pub table_of_bytes : List Column → List ℕ → Result (List Row) FileFault
table_of_bytes columns bytes = unless (slice_get (file_faults columns bytes) 0) (Ok (file_rows columns bytes))
