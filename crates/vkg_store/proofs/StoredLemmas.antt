-- More texts change no row that is stored; and the shape of the rows.
use Rattle.std.proofs.Common.{◌≡◌, ◌∙◌, ◌+◌, ◌<◌, ◌≤◌, ◌++◌, ◌∷◌, ℕ, zero, suc, List, [], refl, sym, ap, arith, length, map, slice_get, append_assoc, length-append}
use Rattle.std.specs.Prelude.{unwrap_or}
use Rattle.std.specs.List.{AllByRecursion, AllZip, range_with_len}
use Rattle.std.proofs.lemmas.List.{append-nil, length-map}
use Rattle.std.proofs.lemmas.Slice.Zip.{AllZip-long}
use Rattle.vkg_cells.specs.declared.cell.SqlType.{SqlType}
use Rattle.vkg_schema.specs.declared.table.Column.{Column}
use Rattle.vkg_store.specs.Stored.{ColumnNumbers, TableNumbers, Extends, IsStored, IsStoredColumn, form_cell, number_at, row_at, stored, stored_at, table_seen}

pub extends-same : (xs : List (List ℕ)) → Extends xs xs
extends-same xs = ([], sym (append-nil xs))

pub extends-more : (xs ys zs : List (List ℕ)) → Extends xs ys → Extends ys zs → Extends xs zs
extends-more xs ys zs (r, e) (s, f) = (r ++ s, f ∙ ap (λ l. l ++ s) e ∙ append_assoc xs r s)

pub extends-longer : (old new : List (List ℕ)) → Extends old new → length old ≤ length new
extends-longer old new (rest, e) = omega (arith, ap length e, length-append old rest)

get-before : (xs rest : List (List ℕ)) (i : ℕ) → i < length xs → slice_get (xs ++ rest) i ≡ slice_get xs i
get-before [] rest i h = absurd (omega (arith, h))
get-before (x ∷ xs) rest zero h = refl
get-before (x ∷ xs) rest (suc i) h = get-before xs rest i (omega (arith, h))

pub stored-more : (old new : List (List ℕ)) (k : SqlType) (n : ℕ) → Extends old new → n ≤ length old → stored new k n ≡ stored old k n
stored-more old new k zero e h = refl
stored-more old new k (suc i) (rest, e) h = ap (λ o. form_cell k (unwrap_or o [])) (ap (λ t. slice_get t i) e ∙ get-before old rest i (omega (arith, h)))

-- the numbers of texts that there are
abbrev pub AreNumbers : List (List ℕ) → List ℕ → Type 0
AreNumbers texts numbers = AllByRecursion (λ n. n ≤ length texts) numbers

pub numbers-more : (old new : List (List ℕ)) (ns : List ℕ) → Extends old new → AreNumbers old ns → AreNumbers new ns
numbers-more old new [] e h = tt
numbers-more old new (n ∷ ns) e h = (omega (arith, h.0, extends-longer old new e), numbers-more old new ns e h.1)

pub numbers-push : (texts : List (List ℕ)) (ns : List ℕ) (n : ℕ) → AreNumbers texts ns → n ≤ length texts → AreNumbers texts (ns ++ n ∷ [])
numbers-push texts [] n h l = (l, tt)
numbers-push texts (m ∷ ns) n h l = (h.0, numbers-push texts ns n h.1 l)

pub number-within : (texts : List (List ℕ)) (ns : List ℕ) (row : ℕ) → AreNumbers texts ns → number_at ns row ≤ length texts
number-within texts [] row h = omega arith
number-within texts (n ∷ ns) zero h = h.0
number-within texts (n ∷ ns) (suc row) h = number-within texts ns row h.1

stored_at-more : (old new : List (List ℕ)) (c : ColumnNumbers) (row : ℕ) → Extends old new → AreNumbers old c.numbers → stored_at new row c ≡ stored_at old row c
stored_at-more old new c row e h = stored-more old new c.kind (number_at c.numbers row) e (number-within old c.numbers row h)

module _ (old new : List (List ℕ)) (e : Extends old new) (rows : ℕ) where
  row_at-more : (columns : List Column) (kept : List ColumnNumbers) → AllZip (IsStoredColumn old rows) columns kept → (row : ℕ) → row_at new kept row ≡ row_at old kept row
  row_at-more [] [] h row = refl
  row_at-more [] (c ∷ cs) h row = absurd h
  row_at-more (k ∷ ks) [] h row = refl
  row_at-more (k ∷ ks) (c ∷ cs) h row = λ i. stored_at-more old new c row e h.0.numbers i ∷ row_at-more ks cs h.1 row i

  column-more : (column : Column) (c : ColumnNumbers) → IsStoredColumn old rows column c → IsStoredColumn new rows column c
  column-more column c h = record { kind = h.kind; known = h.known; long = h.long; numbers = numbers-more old new c.numbers e h.numbers }

  columns-more : (columns : List Column) (kept : List ColumnNumbers) → AllZip (IsStoredColumn old rows) columns kept → AllZip (IsStoredColumn new rows) columns kept
  columns-more [] [] h = tt
  columns-more [] (c ∷ cs) h = absurd h
  columns-more (k ∷ ks) [] h = absurd h
  columns-more (k ∷ ks) (c ∷ cs) h = (column-more k c h.0, columns-more ks cs h.1)

-- the rows of a stored table stay when texts are added
pub table_seen-more : (old new : List (List ℕ)) (columns : List Column) (table : TableNumbers) → Extends old new → IsStored old columns table → table_seen new table ≡ table_seen old table
table_seen-more old new columns table e h = λ i. map (λ row. row_at-more old new e table.rows columns table.columns h row i) (range_with_len 0 table.rows)

-- and it stays stored
pub IsStored-more : (old new : List (List ℕ)) (columns : List Column) (table : TableNumbers) → Extends old new → IsStored old columns table → IsStored new columns table
IsStored-more old new columns table e h = columns-more old new e table.rows columns table.columns h

-- what holds of each f k holds of each of a range's
each-of-range : {A : Type 0} (P : A → Type 0) (f : ℕ → A) → ((k : ℕ) → P (f k)) → (a n : ℕ) → AllByRecursion P (map f (range_with_len a n))
each-of-range P f h a zero = tt
each-of-range P f h a (suc n) = (h a, each-of-range P f h (a + 1) n)

-- each row of a stored table has as many cells as the table has columns
pub rows-long : (texts : List (List ℕ)) (columns : List Column) (table : TableNumbers) → IsStored texts columns table → AllByRecursion (λ row. length row ≡ length columns) (table_seen texts table)
rows-long texts columns table h =
    each-of-range (λ row. length row ≡ length columns) (row_at texts table.columns)
    (λ k. length-map table.columns (stored_at texts k) ∙ AllZip-long (IsStoredColumn texts table.rows) columns table.columns h) 0 table.rows
