-- Reading step by step gives the rows, or the first fault.
use Rattle.std.proofs.Common.{◌≡◌, ◌∙◌, ◌+◌, ◌++◌, ◌&&◌, ◌==◌, ℕ, Bool, true, false, cond, not, List, [], ◌∷◌, Some, option_map, if◌then◌else◌, refl, ap, ap₂, length, nat_lt, map}
use Rattle.std.specs.Prelude.{Result, Ok, Err, count_by, position, slice_get}
use Rattle.std.specs.List.{enumerate_from, flat_map, list_any, position_from}
use Rattle.std.specs.Str.{bytes_eq, is_utf8}
use Rattle.std.proofs.lemmas.Iterator.Adapters.{position_from-zero}
use Rattle.std.specs.Option.{option_or}
use Rattle.vkg_lists.specs.Results.{unless}
use Rattle.csv.specs.Reading.{default_config, records, strip_bom}
use Rattle.vkg_cells.specs.declared.cell.Cell.{Cell}
use Rattle.vkg_cells.specs.declared.cell.FieldFault.{FieldFault}
use Rattle.vkg_schema.specs.declared.table.Column.{Column}
use Rattle.vkg_schema.specs.Rows.{is_null}
use Rattle.vkg_tables.specs.Field.{cell_of_csv}
use Rattle.vkg_tables.specs.Steps.{cells_from, checked, file_from, onto, row_from, rows_from, table_from, table_of_records}
use Rattle.vkg_tables.specs.TableFile.{cell_or_null, fault, faults_of_read, field_faults, field_under, not_once_faults, record_faults, row_faults, row_of, rows_of_records, table_of_bytes, unknown_faults}
use Rattle.vkg_tables.specs.declared.fault.FileFault.{FileFault}
use Rattle.vkg_tables.specs.declared.load.TheConstants.{MOST_BYTES}

-- the value, or the first of the faults
abbrev settled : {A : Type 0} → List FileFault → A → Result A FileFault
settled faults x = unless (slice_get faults 0) (Ok x)

onto-settled : {A : Type 0} (fs gs : List FileFault) (x : A) (xs : List A) → onto (settled fs x) (settled gs xs) ≡ settled (fs ++ gs) (x ∷ xs)
onto-settled [] [] x xs = refl
onto-settled [] (g ∷ gs) x xs = refl
onto-settled (f ∷ fs) gs x xs = refl

checked-settled : (column : Column) (row place : ℕ) (r : Result Cell FieldFault) → checked column.not_null row place r ≡ settled (faults_of_read column row place r) (cell_or_null r)
checked-settled column row place (Err e) = refl
checked-settled column row place (Ok c) = by (is_null c && column.not_null)
  where
    by : (b : Bool) → (if b then Err (fault 7 row place) else Ok c) ≡ settled (if b then fault 7 row place ∷ [] else []) c
    by true = refl
    by false = refl

module _ (header : List (List ℕ)) where
  cells-settled : (columns : List Column) (row place : ℕ) (fields : List (List ℕ))
      → cells_from header columns row place fields ≡ settled (flat_map (λ c. field_faults c.1 row c.0 (field_under header fields c.1)) (enumerate_from place columns)) (row_of header columns fields)
  cells-settled [] row place fields = refl
  cells-settled (c ∷ cs) row place fields =
      ap₂ onto (checked-settled c row place (cell_of_csv c.kind (field_under header fields c))) (cells-settled cs row (place + 1) fields)
      ∙ onto-settled (field_faults c row place (field_under header fields c)) _ _ _

  row-settled : (columns : List Column) (row : ℕ) (fields : List (List ℕ)) → row_from header columns row fields ≡ settled (row_faults header columns row fields) (row_of header columns fields)
  row-settled columns row fields = by (length fields == length header)
    where
      by : (b : Bool) → (if b then cells_from header columns row 1 fields else Err (fault 4 row 0))
          ≡ settled (if b then flat_map (λ c. field_faults c.1 row c.0 (field_under header fields c.1)) (enumerate_from 1 columns) else fault 4 row 0 ∷ []) (row_of header columns fields)
      by true = cells-settled columns row 1 fields
      by false = refl

  rows-settled : (columns : List Column) (row : ℕ) (recs : List (List (List ℕ)))
      → rows_from header columns row recs ≡ settled (flat_map (λ r. row_faults header columns r.0 r.1) (enumerate_from row recs)) (map (row_of header columns) recs)
  rows-settled columns row [] = refl
  rows-settled columns row (r ∷ rs) =
      ap₂ onto (row-settled columns row r) (rows-settled columns (row + 1) rs)
      ∙ onto-settled (row_faults header columns row r) _ _ _

-- the first element that fails a test, and the first of their faults
module _ {A : Type 0} (q : A → Bool) (check : ℕ) where
  first-from : (i : ℕ) (xs : List A)
      → option_map (λ k. fault check 0 (k + 1)) (position_from (λ x. not (q x)) i xs) ≡ slice_get (flat_map (λ x. if q x.1 then [] else fault check 0 x.0 ∷ []) (enumerate_from (i + 1) xs)) 0
  first-from i [] = refl
  first-from i (x ∷ xs) = by (q x) (first-from (i + 1) xs)
    where
      rest : List FileFault
      rest = flat_map (λ x. if q x.1 then [] else fault check 0 x.0 ∷ []) (enumerate_from (i + 1 + 1) xs)

      by : (b : Bool) → option_map (λ k. fault check 0 (k + 1)) (position_from (λ x. not (q x)) (i + 1) xs) ≡ slice_get rest 0
          → option_map (λ k. fault check 0 (k + 1)) (cond (not b) (Some i) (position_from (λ x. not (q x)) (i + 1) xs))
          ≡ slice_get ((if b then [] else fault check 0 (i + 1) ∷ []) ++ rest) 0
      by true e = e
      by false e = refl

  first-failing : (xs : List A) → option_map (λ k. fault check 0 (k + 1)) (position (λ x. not (q x)) xs) ≡ slice_get (flat_map (λ x. if q x.1 then [] else fault check 0 x.0 ∷ []) (enumerate_from 1 xs)) 0
  first-failing xs = ap (option_map (λ k. fault check 0 (k + 1))) (position_from-zero (λ x. not (q x)) xs) ∙ first-from 0 xs

either-first : {A : Type 0} (fs gs hs : List FileFault) (x : A) (r : Result A FileFault) → r ≡ settled hs x
    → unless (option_or (slice_get fs 0) (slice_get gs 0)) r ≡ settled (fs ++ (gs ++ hs)) x
either-first [] [] hs x r e = e
either-first [] (g ∷ gs) hs x r e = refl
either-first (f ∷ fs) gs hs x r e = refl

table-settled : (columns : List Column) (recs : List (List (List ℕ))) → table_from columns recs ≡ settled (record_faults columns recs) (rows_of_records columns recs)
table-settled columns [] = refl
table-settled columns (header ∷ rows) =
    ap₂ (λ a b. unless (option_or a b) (rows_from header columns 1 rows))
    (first-failing (λ f. list_any (λ c. bytes_eq c.name f) columns) 2 header)
    (first-failing (λ c. count_by (λ f. bytes_eq f c.name) header == 1) 3 columns)
    ∙ either-first (unknown_faults columns header) (not_once_faults columns header) _ _ _ (rows-settled header columns 1 rows)

pub file_from-settled : (columns : List Column) (bytes : List ℕ) → file_from columns bytes ≡ table_of_bytes columns bytes
file_from-settled columns bytes = long (nat_lt MOST_BYTES (length bytes))
  where
    recs : List (List (List ℕ))
    recs = records default_config (strip_bom bytes)

    text : (b : Bool) → table_of_records columns (if b then Ok recs else Err (fault 5 0 0)) ≡ settled (if b then record_faults columns recs else fault 5 0 0 ∷ []) (rows_of_records columns recs)
    text true = table-settled columns recs
    text false = refl

    long : (b : Bool) → table_of_records columns (if b then Err (fault 11 0 0) else if is_utf8 bytes then Ok recs else Err (fault 5 0 0))
        ≡ settled (if b then fault 11 0 0 ∷ [] else if is_utf8 bytes then record_faults columns recs else fault 5 0 0 ∷ []) (rows_of_records columns recs)
    long true = refl
    long false = text (is_utf8 bytes)
