-- The faults of the rows of a database against the keys and foreign keys of its schema, in the order in which they are told.
use Rattle.std.specs.Prelude.{ℕ, ◌+◌, Bool, ◌&&◌, not, List, [], ◌∷◌, ◌++◌, Option, if◌then◌else◌, length, map, slice_get}
use Rattle.std.specs.List.{enumerate_from, flat_map, list_any, zip}
use Rattle.vkg_schema.specs.declared.table.Table.{Table}
use Rattle.vkg_schema.specs.Rows.{Row, agree, has_no_null, rows_of}
use Rattle.vkg_tables.specs.declared.fault.TableFault.{TableFault}

-- each column with itself
abbrev pub with_itself : List ℕ → List (ℕ × ℕ)
with_itself columns = map (λ c. (c, c)) columns

-- SQL-92, 4.10.2: the row agrees with an earlier one on the whole key; NULL agrees with nothing
abbrev pub repeats : List ℕ → List Row → Row → Bool
repeats key before row = list_any (agree (with_itself key) row) before

-- SQL:1999, 11.8, MATCH SIMPLE: there is no NULL in the foreign key, and no row that it refers to
abbrev pub is_orphan : List (ℕ × ℕ) → List Row → Row → Bool
is_orphan pairs targets row = has_no_null (map (λ p. p.0) pairs) row && not (list_any (agree pairs row) targets)

-- each element, behind the list of those that stand before it
abbrev pub with_before : {A : Type 0} → List A → List A → List (List A × A)
with_before before [] = []
with_before before (x ∷ xs) = (before, x) ∷ with_before (before ++ x ∷ []) xs

-- where the test holds of a thing, the rows before a row, and the row: row by row, in a row thing by thing; both count from 1
abbrev pub places_where : {A X : Type 0} → (X → List A → A → Bool) → List X → List A → List (ℕ × ℕ)
places_where test things rows =
    flat_map (λ r. flat_map (λ x. if test x.1 r.0 r.1 then (length r.0 + 1, x.0) ∷ [] else []) (enumerate_from 1 things)) (with_before [] rows)

-- the rows and keys at which a row repeats a key
abbrev pub repeated_keys : Table → List Row → List (ℕ × ℕ)
repeated_keys table rows = places_where (λ key before row. repeats key.columns before row) table.keys rows

-- the rows and foreign keys at which a row refers to no row
abbrev pub broken_references : List (List Row) → Table → List Row → List (ℕ × ℕ)
broken_references db table rows = places_where (λ reference before row. is_orphan reference.pairs (rows_of db reference.table) row) table.references rows

abbrev pub table_fault : ℕ → ℕ → ℕ × ℕ → TableFault
table_fault check table place = record { check = check; table = table; row = place.0; column = place.1 }

-- table by table, which count from 1
abbrev pub faults_over : ℕ → (Table → List Row → List (ℕ × ℕ)) → List Table → List (List Row) → List TableFault
faults_over check places tables db = flat_map (λ t. map (table_fault check t.0) (places t.1.0 t.1.1)) (enumerate_from 1 (zip tables db))

-- T09 by the least table, row and key
abbrev pub key_fault : List Table → List (List Row) → Option TableFault
key_fault tables db = slice_get (faults_over 9 repeated_keys tables db) 0

-- T10 by the least table, row and foreign key
abbrev pub reference_fault : List Table → List (List Row) → Option TableFault
reference_fault tables db = slice_get (faults_over 10 (broken_references db) tables db) 0
