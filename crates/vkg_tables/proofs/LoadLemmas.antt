-- Walks over columns and over records.
use Rattle.std.proofs.Common.{◌≡◌, ◌∙◌, ◌+◌, ◌<◌, ◌≤◌, ◌++◌, ℕ, zero, suc, Bool, true, false, List, [], ◌∷◌, refl, sym, ap, length, get_or, drop, add-one, drop-cons, IsUtf8, le-ltb}
use Rattle.std.proofs.lemmas.List.{append-nil}
use Rattle.std.specs.Prelude.{Result, Ok, Err}
use Rattle.vkg_lists.proofs.Results.{followed_first}
use Rattle.vkg_lists.specs.Results.{followed_by, in_front}
use Rattle.vkg_tables.specs.declared.fault.FileFault.{FileFault}
use Rattle.vkg_tables.specs.declared.fault.FileError.{FileError}
use Rattle.vkg_tables.specs.declared.fault.FileError.TheVariants as file_error
use Rattle.vkg_tables.specs.declared.load.TheConstants.{MOST_BYTES}
use Rattle.csv.specs.Reading.{default_config, records, strip_bom}
use Rattle.csv.specs.Records.{field_at}
use Rattle.std.specs.Str.{is_utf8}
use Rattle.std.proofs.lemmas.Str.{IsUtf8-from_is_utf8, is_utf8-from_IsUtf8}
use Rattle.vkg_schema.specs.declared.table.Column.{Column}
use Rattle.vkg_tables.specs.Field.{field_of}
use Rattle.vkg_tables.specs.Steps.{FailsAs, cells_from, field_cell, file_records, onto, place_in}
use Rattle.vkg_tables.specs.TableFile.{fault}

module _ {A : Type 0} where
  onto-in_front : (x : A) (r : Result (List A) FileFault) → onto (Ok x) r ≡ in_front x r
  onto-in_front x (Ok ys) = refl
  onto-in_front x (Err f) = refl

  -- one more is done
  pub walk-step : (xs : List A) (x : A) (one : Result A FileFault) (rest whole : Result (List A) FileFault) → one ≡ Ok x → followed_by xs (onto one rest) ≡ whole → followed_by (xs ++ x ∷ []) rest ≡ whole
  walk-step xs x one rest whole e w = sym (followed_first xs x rest) ∙ ap (followed_by xs) (sym (onto-in_front x rest)) ∙ ap (λ r. followed_by xs (onto r rest)) (sym e) ∙ w

  -- the next one fails
  pub walk-fails : (xs : List A) (one : Result A FileFault) (rest whole : Result (List A) FileFault) (e : FileError) → FailsAs one e → followed_by xs (onto one rest) ≡ whole → FailsAs whole e
  walk-fails xs one rest whole file_error.Memory h w = tt
  walk-fails xs one rest whole (file_error.Fault f) h w = sym w ∙ ap (λ r. followed_by xs (onto r rest)) h

  -- nothing is done
  pub walk-start : (xs : List A) (whole : Result (List A) FileFault) → xs ≡ [] → followed_by xs whole ≡ whole
  walk-start xs (Ok ys) e = ap (λ l. Ok (l ++ ys)) e
  walk-start xs (Err f) e = refl

  pub walk-end : (xs : List A) (whole : Result (List A) FileFault) → followed_by xs (Ok []) ≡ whole → whole ≡ Ok xs
  walk-end xs whole w = sym w ∙ ap Ok (append-nil xs)

pub field-get : (fields : List (List ℕ)) (i : ℕ) → field_of fields i ≡ get_or fields i []
unfolding field_at
field-get [] zero = refl
field-get [] (suc i) = refl
field-get (f ∷ fs) zero = refl
field-get (f ∷ fs) (suc i) = field-get fs i

-- the cells of one column more
pub cells-next : (header : List (List ℕ)) (columns : List Column) (row i : ℕ) (fields : List (List ℕ)) (d : Column) → i < length columns
    → cells_from header (drop i columns) row (i + 1) fields ≡ onto (field_cell (get_or columns i d) row (i + 1) (field_of fields (place_in header (get_or columns i d)))) (cells_from header (drop (i + 1) columns) row (i + 1 + 1) fields)
cells-next header columns row i fields d h = ap (λ cs. cells_from header cs row (i + 1) fields) (drop-cons columns i d h ∙ ap (λ n. get_or columns i d ∷ drop n columns) (sym (add-one i)))

pub file-text : (bytes : List ℕ) → length bytes ≤ MOST_BYTES → IsUtf8 bytes → file_records bytes ≡ Ok (records default_config (strip_bom bytes))
file-text bytes h u = rw (le-ltb MOST_BYTES (length bytes) h, is_utf8-from_IsUtf8 bytes u) refl

pub file-no-text : (bytes : List ℕ) → length bytes ≤ MOST_BYTES → ¬ (IsUtf8 bytes) → file_records bytes ≡ Err (fault 5 0 0)
file-no-text bytes h u = by (is_utf8 bytes) refl
  where
    by : (b : Bool) → is_utf8 bytes ≡ b → file_records bytes ≡ Err (fault 5 0 0)
    by true e = absurd (u (IsUtf8-from_is_utf8 bytes e))
    by false e = rw (le-ltb MOST_BYTES (length bytes) h, e) refl
