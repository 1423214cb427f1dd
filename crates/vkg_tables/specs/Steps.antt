-- A table file read step by step: what each step gives, or the fault at which it stops.
use Rattle.std.specs.Prelude.{ℕ, ◌+◌, Bool, not, ◌&&◌, ◌==◌, List, [], ◌∷◌, Option, option_map, length, if◌then◌else◌, nat_lt, Result, Ok, Err, position, count_by, ⊤, ◌≡◌}
use Rattle.std.specs.List.{list_any, position_or_len}
use Rattle.std.specs.Str.{bytes_eq, is_utf8}
use Rattle.std.specs.Option.{option_or}
use Rattle.vkg_lists.specs.Results.{unless}
use Rattle.csv.specs.Reading.{default_config, records, strip_bom}
use Rattle.vkg_cells.specs.declared.cell.Cell.{Cell}
use Rattle.vkg_cells.specs.declared.cell.FieldFault.{FieldFault}
use Rattle.vkg_schema.specs.declared.table.Column.{Column}
use Rattle.vkg_schema.specs.Rows.{Row, is_null}
use Rattle.vkg_tables.specs.Field.{cell_of_csv, field_of}
use Rattle.vkg_tables.specs.TableFile.{fault, value_check}
use Rattle.vkg_tables.specs.declared.fault.FileFault.{FileFault}
use Rattle.vkg_tables.specs.declared.fault.FileError.{FileError}
use Rattle.vkg_tables.specs.declared.fault.FileError.TheVariants as file_error
use Rattle.vkg_tables.specs.declared.load.TheConstants.{MOST_BYTES}

-- the error is the fault that is defined, or a want of memory
abbrev pub FailsAs : {A : Type 0} → Result A FileFault → FileError → Type 0
FailsAs defined (file_error.Fault f) = defined ≡ Err f
FailsAs defined file_error.Memory = ⊤

-- the call gives what is defined, or wants memory
abbrev pub Gives : {A : Type 0} → Result A FileFault → Result A FileError → Type 0
Gives defined (Ok x) = defined ≡ Ok x
Gives defined (Err e) = FailsAs defined e

abbrev pub checked : Bool → ℕ → ℕ → Result Cell FieldFault → Result Cell FileFault
checked not_null row place (Ok c) = if is_null c && not_null then Err (fault 7 row place) else Ok c
checked not_null row place (Err e) = Err (fault (value_check e) row place)

-- the field of a row under a column
abbrev pub field_cell : Column → ℕ → ℕ → List ℕ → Result Cell FileFault
field_cell column row place text = checked column.not_null row place (cell_of_csv column.kind text)

-- the first of a list, and the others, if both are there; else the first fault
abbrev pub onto : {A E : Type 0} → Result A E → Result (List A) E → Result (List A) E
onto (Err e) r = Err e
onto (Ok x) (Ok xs) = Ok (x ∷ xs)
onto (Ok x) (Err e) = Err e

-- where a column stands in the header
abbrev pub place_in : List (List ℕ) → Column → ℕ
place_in header column = position_or_len (λ f. bytes_eq f column.name) header

-- the cells of a row, in the order of the schema's columns
abbrev pub cells_from : List (List ℕ) → List Column → ℕ → ℕ → List (List ℕ) → Result Row FileFault
cells_from header [] row place fields = Ok []
cells_from header (c ∷ cs) row place fields = onto (field_cell c row place (field_of fields (place_in header c))) (cells_from header cs row (place + 1) fields)

abbrev pub row_from : List (List ℕ) → List Column → ℕ → List (List ℕ) → Result Row FileFault
row_from header columns row fields = if length fields == length header then cells_from header columns row 1 fields else Err (fault 4 row 0)

abbrev pub rows_from : List (List ℕ) → List Column → ℕ → List (List (List ℕ)) → Result (List Row) FileFault
rows_from header columns row [] = Ok []
rows_from header columns row (r ∷ rs) = onto (row_from header columns row r) (rows_from header columns (row + 1) rs)

-- the first field of the header that names no column
abbrev pub unknown : List Column → List (List ℕ) → Option ℕ
unknown columns header = position (λ f. not (list_any (λ c. bytes_eq c.name f) columns)) header

-- the first column that the header does not name once
abbrev pub not_once : List Column → List (List ℕ) → Option ℕ
not_once columns header = position (λ c. not (count_by (λ f. bytes_eq f c.name) header == 1)) columns

abbrev pub header_fault : List Column → List (List ℕ) → Option FileFault
header_fault columns header = option_or (option_map (λ k. fault 2 0 (k + 1)) (unknown columns header)) (option_map (λ k. fault 3 0 (k + 1)) (not_once columns header))

abbrev pub table_from : List Column → List (List (List ℕ)) → Result (List Row) FileFault
table_from columns [] = Err (fault 1 0 0)
table_from columns (header ∷ rows) = unless (header_fault columns header) (rows_from header columns 1 rows)

-- the records of a file, or that it is too long or no text
abbrev pub file_records : List ℕ → Result (List (List (List ℕ))) FileFault
file_records bytes =
    if nat_lt MOST_BYTES (length bytes) then Err (fault 11 0 0)
    else if is_utf8 bytes then Ok (records default_config (strip_bom bytes))
    else Err (fault 5 0 0)

abbrev pub table_of_records : List Column → Result (List (List (List ℕ))) FileFault → Result (List Row) FileFault
table_of_records columns (Ok rows) = table_from columns rows
table_of_records columns (Err f) = Err f

abbrev pub file_from : List Column → List ℕ → Result (List Row) FileFault
file_from columns bytes = table_of_records columns (file_records bytes)
