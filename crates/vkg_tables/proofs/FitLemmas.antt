-- The cells that are read fit their columns.
use Rattle.std.proofs.Common.{◌≡◌, ◌≢◌, ◌∙◌, ◌+◌, ◌<◌, ◌&&◌, ◌==◌, ◌⊎◌, inl, inr, ℕ, zero, suc, Bool, true, false, List, [], ◌∷◌, Option, Some, None, if◌then◌else◌, refl, sym, ap, subst, arith, length, get_or, nat_lt, map, IsUtf8}
use Rattle.std.specs.Prelude.{Result, Ok, Err, slice_set}
use Rattle.std.proofs.lemmas.List.{set-get_or}
use Rattle.std.proofs.lemmas.Option.{slice_get-get_or, unwrap_or-slice_get}
use Rattle.std.proofs.lemmas.Str.{IsUtf8-nil, IsUtf8-from_is_utf8}
use Rattle.std.specs.List.{AllByRecursion, AllZip}
use Rattle.std.specs.Str.{is_utf8}
use Rattle.vkg_lists.proofs.Each.{recursion_weaken}
use Rattle.vkg_lists.specs.Results.{unless}
use Rattle.csv.specs.Reading.{default_config, records, strip_bom}
use Rattle.csv.specs.Records.{AllText, field_at}
use Rattle.vkg_tables.specs.Texts.{AreTexts}
use Rattle.vkg_tables.proofs.TextLemmas.{AreTexts-records, IsUtf8-strip_bom}
use Rattle.vkg_cells.specs.declared.cell.Cell.{Cell}
use Rattle.vkg_cells.specs.declared.cell.Cell.TheVariants as cell
use Rattle.vkg_cells.specs.declared.cell.SqlType.{SqlType}
use Rattle.vkg_cells.specs.declared.cell.SqlType.TheVariants as kind
use Rattle.vkg_cells.specs.declared.cell.FieldFault.{FieldFault}
use Rattle.vkg_cells.specs.Field.{cell_of_field}
use Rattle.vkg_cells.specs.Form.{IsOfKind}
use Rattle.vkg_cells.specs.Order.{family_of}
use Rattle.vkg_cells.proofs.FieldLemmas.{family_is}
use Rattle.vkg_schema.specs.declared.table.Column.{Column}
use Rattle.vkg_schema.specs.declared.table.Table.{Table}
use Rattle.vkg_schema.specs.Meets.{FitsColumn, IsColumn, IsTable}
use Rattle.vkg_schema.specs.Rows.{Row, is_null, rows_of}
use Rattle.vkg_tables.specs.Field.{cell_of_csv, stands_for_null}
use Rattle.vkg_tables.specs.Field.{field_of}
use Rattle.vkg_tables.specs.Steps.{cells_from, checked, field_cell, file_from, header_fault, onto, place_in, row_from, rows_from, table_from, table_of_records}
use Rattle.vkg_tables.specs.TableFile.{fault}
use Rattle.vkg_tables.specs.TableFile.{table_of_bytes}
use Rattle.vkg_tables.specs.Parts.{HasNoTerm, IsNoTerm}
use Rattle.vkg_tables.proofs.FileFaults.{file_from-settled}
use Rattle.vkg_tables.specs.Seen.{HoldsCells, columns_at, columns_of}
use Rattle.vkg_tables.specs.declared.fault.FileFault.{FileFault}
use Rattle.vkg_tables.specs.declared.load.TheConstants.{MOST_BYTES}

-- ---- a field is read as no term
kind-NoTerm : (k : SqlType) (c : Cell) → k ≢ kind.Term → IsOfKind k c → IsNoTerm c
kind-NoTerm kind.Text c h (text, u, e) = λ s. cc (sym (family_is kind.Text c text e) ∙ s)
kind-NoTerm kind.Int c h (text, u, e) = λ s. cc (sym (family_is kind.Int c text e) ∙ s)
kind-NoTerm kind.Dec c h (text, u, e) = λ s. cc (sym (family_is kind.Dec c text e) ∙ s)
kind-NoTerm kind.Bool c h (text, u, e) = λ s. cc (sym (family_is kind.Bool c text e) ∙ s)
kind-NoTerm kind.Date c h (text, u, e) = λ s. cc (sym (family_is kind.Date c text e) ∙ s)
kind-NoTerm kind.Stamp c h (text, u, e) = λ s. cc (sym (family_is kind.Stamp c text e) ∙ s)
kind-NoTerm kind.Bin c h (text, u, e) = λ s. cc (sym (family_is kind.Bin c text e) ∙ s)
kind-NoTerm kind.Time c h (text, u, e) = λ s. cc (sym (family_is kind.Time c text e) ∙ s)
kind-NoTerm kind.Term c h i = absurd (h refl)

fits-NoTerm : (column : Column) (c : Cell) → IsColumn column → FitsColumn column c → IsNoTerm c
fits-NoTerm column c h f = by f.kind
  where
    by : (c ≡ cell.Null) ⊎ IsOfKind column.kind c → IsNoTerm c
    by (inl e) = λ s. cc (ap family_of (sym e) ∙ s)
    by (inr i) = kind-NoTerm column.kind c h.kind i

row-NoTerm : (columns : List Column) (row : Row) → AllByRecursion IsColumn columns → AllZip FitsColumn columns row → HasNoTerm row
row-NoTerm [] [] h f = tt
row-NoTerm [] (c ∷ cs) h f = absurd f
row-NoTerm (k ∷ ks) [] h f = tt
row-NoTerm (k ∷ ks) (c ∷ cs) h f = (fits-NoTerm k c h.0 f.0, row-NoTerm ks cs h.1 f.1)

rows-NoTerm : (columns : List Column) (rows : List Row) → AllByRecursion IsColumn columns → AllByRecursion (AllZip FitsColumn columns) rows → AllByRecursion HasNoTerm rows
rows-NoTerm columns rows h f = recursion_weaken (AllZip FitsColumn columns) HasNoTerm rows (λ row fits. row-NoTerm columns row h fits) f

pub tables-NoTerm : (all tables : List Table) (db : List (List Row)) → AllByRecursion (IsTable all) tables → HoldsCells tables db → AllByRecursion (AllByRecursion HasNoTerm) db
tables-NoTerm all tables [] h f = tt
tables-NoTerm all [] (rows ∷ db) h f = absurd f
tables-NoTerm all (t ∷ ts) (rows ∷ db) h f = (rows-NoTerm t.columns rows h.0.columns f.0, tables-NoTerm all ts db h.1 f.1)

-- ---- what is read fits
of-kind : (k : SqlType) (text : List ℕ) (c : Cell) → IsUtf8 text → cell_of_field k text ≡ Ok c → IsOfKind k c
of-kind kind.Text text c u e = (text, u, e)
of-kind kind.Int text c u e = (text, u, e)
of-kind kind.Dec text c u e = (text, u, e)
of-kind kind.Bool text c u e = (text, u, e)
of-kind kind.Date text c u e = (text, u, e)
of-kind kind.Stamp text c u e = (text, u, e)
of-kind kind.Bin text c u e = (text, u, e)
of-kind kind.Time text c u e = (text, u, e)
of-kind kind.Term text c u e = cc e

csv-fits : (k : SqlType) (text : List ℕ) (c : Cell) → IsUtf8 text → cell_of_csv k text ≡ Ok c → (c ≡ cell.Null) ⊎ IsOfKind k c
csv-fits k text c u e = by (stands_for_null k text) e
  where
    by : (b : Bool) → (if b then Ok cell.Null else cell_of_field k text) ≡ Ok c → (c ≡ cell.Null) ⊎ IsOfKind k c
    by true h = inl (cc h)
    by false h = inr (of-kind k text c u h)

checked-ok : (nn : Bool) (row place : ℕ) (r : Result Cell FieldFault) (c : Cell) → checked nn row place r ≡ Ok c → (r ≡ Ok c) × (is_null c && nn ≡ false)
checked-ok nn row place (Err x) c e = cc e
checked-ok nn row place (Ok d) c e = by (is_null d && nn) refl e
  where
    by : (b : Bool) → is_null d && nn ≡ b → ◌≡◌ {A = Result Cell FileFault} (if b then Err (fault 7 row place) else Ok d) (Ok c) → (◌≡◌ {A = Result Cell FieldFault} (Ok d) (Ok c)) × (is_null c && nn ≡ false)
    by true h f = cc f
    by false h f = let same : d ≡ c = cc f in (ap Ok same, ap (λ x. is_null x && nn) (sym same) ∙ h)

field-fits : (column : Column) (row place : ℕ) (text : List ℕ) (c : Cell) → IsUtf8 text → field_cell column row place text ≡ Ok c → FitsColumn column c
field-fits column row place text c u e =
    let k = checked-ok column.not_null row place (cell_of_csv column.kind text) c e in
    record { kind = csv-fits column.kind text c u k.0; not_null = λ t n. cc (sym k.1 ∙ ap (λ x. is_null x && column.not_null) n ∙ t) }

field-text : (fields : List (List ℕ)) (i : ℕ) → AllText fields → IsUtf8 (field_of fields i)
unfolding AllText field_at
field-text [] zero h = IsUtf8-nil
field-text [] (suc i) h = IsUtf8-nil
field-text (f ∷ fs) zero h = h.0
field-text (f ∷ fs) (suc i) h = field-text fs i h.1

ok-onto : {A : Type 0} (x : Result A FileFault) (r : Result (List A) FileFault) (ys : List A) → onto x r ≡ Ok ys → (y : A) × (zs : List A) × (x ≡ Ok y) × (r ≡ Ok zs) × (ys ≡ y ∷ zs)
ok-onto (Err f) r ys e = cc e
ok-onto (Ok x) (Err f) ys e = cc e
ok-onto (Ok x) (Ok xs) ys e = (x, xs, refl, refl, cc e)

cells-fit : (header : List (List ℕ)) (columns : List Column) (row place : ℕ) (fields : List (List ℕ)) (cells : Row) → AllText fields → cells_from header columns row place fields ≡ Ok cells → AllZip FitsColumn columns cells
cells-fit header [] row place fields cells t e = let none : [] ≡ cells = cc e in subst (AllZip FitsColumn []) none tt
cells-fit header (c ∷ cs) row place fields cells t e =
    let o = ok-onto (field_cell c row place (field_of fields (place_in header c))) (cells_from header cs row (place + 1) fields) cells e in
    subst (AllZip FitsColumn (c ∷ cs)) (sym o.4)
    (field-fits c row place (field_of fields (place_in header c)) o.0 (field-text fields (place_in header c) t) o.2, cells-fit header cs row (place + 1) fields o.1 t o.3)

pub row-fits : (header : List (List ℕ)) (columns : List Column) (row : ℕ) (fields : List (List ℕ)) (cells : Row) → AllText fields → row_from header columns row fields ≡ Ok cells → AllZip FitsColumn columns cells
row-fits header columns row fields cells t e = by (length fields == length header) e
  where
    by : (b : Bool) → (if b then cells_from header columns row 1 fields else Err (fault 4 row 0)) ≡ Ok cells → AllZip FitsColumn columns cells
    by true h = cells-fit header columns row 1 fields cells t h
    by false h = cc h

rows-fit : (header : List (List ℕ)) (columns : List Column) (row : ℕ) (recs : List (List (List ℕ))) (rows : List Row) → AreTexts recs → rows_from header columns row recs ≡ Ok rows → AllByRecursion (AllZip FitsColumn columns) rows
rows-fit header columns row [] rows t e = let none : [] ≡ rows = cc e in subst (AllByRecursion (AllZip FitsColumn columns)) none tt
rows-fit header columns row (r ∷ rs) rows t e =
    let o = ok-onto (row_from header columns row r) (rows_from header columns (row + 1) rs) rows e in
    subst (AllByRecursion (AllZip FitsColumn columns)) (sym o.4) (row-fits header columns row r o.0 t.0 o.2, rows-fit header columns (row + 1) rs o.1 t.1 o.3)

table-fits : (columns : List Column) (recs : List (List (List ℕ))) (rows : List Row) → AreTexts recs → table_from columns recs ≡ Ok rows → AllByRecursion (AllZip FitsColumn columns) rows
table-fits columns [] rows t e = cc e
table-fits columns (header ∷ rs) rows t e = by (header_fault columns header) e
  where
    by : (o : Option FileFault) → unless o (rows_from header columns 1 rs) ≡ Ok rows → AllByRecursion (AllZip FitsColumn columns) rows
    by (Some f) h = cc h
    by None h = rows-fit header columns 1 rs rows t.1 h

from-fits : (columns : List Column) (bytes : List ℕ) (rows : List Row) → file_from columns bytes ≡ Ok rows → AllByRecursion (AllZip FitsColumn columns) rows
from-fits columns bytes rows e = long (nat_lt MOST_BYTES (length bytes)) e
  where
    text : (b : Bool) → is_utf8 bytes ≡ b → table_of_records columns (if b then Ok (records default_config (strip_bom bytes)) else Err (fault 5 0 0)) ≡ Ok rows → AllByRecursion (AllZip FitsColumn columns) rows
    text true u h = table-fits columns (records default_config (strip_bom bytes)) rows (AreTexts-records (strip_bom bytes) (IsUtf8-strip_bom bytes (IsUtf8-from_is_utf8 bytes u))) h
    text false u h = cc h

    long : (b : Bool) → table_of_records columns (if b then Err (fault 11 0 0) else if is_utf8 bytes then Ok (records default_config (strip_bom bytes)) else Err (fault 5 0 0)) ≡ Ok rows → AllByRecursion (AllZip FitsColumn columns) rows
    long true h = cc h
    long false h = text (is_utf8 bytes) refl h

pub file-fits : (columns : List Column) (bytes : List ℕ) (rows : List Row) → table_of_bytes columns bytes ≡ Ok rows → AllByRecursion (AllZip FitsColumn columns) rows
file-fits columns bytes rows e = from-fits columns bytes rows (file_from-settled columns bytes ∙ e)

-- ---- a table among the others
pub set-holds : (tables : List Table) (db : List (List Row)) (i : ℕ) (rows : List Row) → i < length tables → HoldsCells tables db → AllByRecursion (AllZip FitsColumn (columns_of tables i)) rows → HoldsCells tables (slice_set db i rows)
set-holds [] db i rows l h r = absurd (omega (arith, l))
set-holds (t ∷ ts) [] i rows l h r = absurd h
set-holds (t ∷ ts) (x ∷ db) zero rows l h r = (r, h.1)
set-holds (t ∷ ts) (x ∷ db) (suc i) rows l h r = (h.0, set-holds ts db i rows (omega (arith, l)) h.1 r)

pub empty-holds : (tables : List Table) → HoldsCells tables (map (λ t. []) tables)
empty-holds [] = tt
empty-holds (t ∷ ts) = (tt, empty-holds ts)

pub columns-there : (tables : List Table) (i : ℕ) (d : Table) → i < length tables → columns_of tables i ≡ (get_or tables i d).columns
columns-there tables i d l = ap columns_at (slice_get-get_or tables i d l)

pub holds-at : (tables : List Table) (db : List (List Row)) (i : ℕ) → i < length tables → HoldsCells tables db → AllByRecursion (AllZip FitsColumn (columns_of tables i)) (rows_of db i)
holds-at [] db i l h = absurd (omega (arith, l))
holds-at (t ∷ ts) [] i l h = absurd h
holds-at (t ∷ ts) (rows ∷ db) zero l h = h.0
holds-at (t ∷ ts) (rows ∷ db) (suc i) l h = holds-at ts db i (omega (arith, l)) h.1

pub set-same : (db : List (List Row)) (i : ℕ) → slice_set db i (rows_of db i) ≡ db
set-same db i = ap (slice_set db i) (unwrap_or-slice_get db i []) ∙ set-get_or db i []
