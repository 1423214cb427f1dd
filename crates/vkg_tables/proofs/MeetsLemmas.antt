-- A database without a fault meets its schema.
use Rattle.std.proofs.Common.{◌≡◌, ◌∙◌, ◌+◌, ◌++◌, ◌&&◌, ℕ, Bool, true, false, not, List, [], ◌∷◌, Option, Some, None, option_map, if◌then◌else◌, refl, sym, nat_lt, length}
use Rattle.std.specs.Prelude.{IsFalse, IsTrue, slice_get}
use Rattle.std.specs.List.{AllByRecursion, AllZip, list_any}
use Rattle.std.specs.Option.{option_or}
use Rattle.vkg_lists.proofs.Each.{recursion_weaken}
use Rattle.vkg_lists.proofs.Heads.{any_more}
use Rattle.vkg_lists.proofs.Bools.{neither}
use Rattle.vkg_lists.proofs.Onto.{map_lacking}
use Rattle.vkg_schema.specs.declared.table.Key.{Key}
use Rattle.vkg_schema.specs.declared.table.Reference.{Reference}
use Rattle.vkg_schema.specs.declared.table.Table.{Table}
use Rattle.vkg_schema.specs.Meets.{KeyHolds, MeetsSchema, ReferenceHolds, TableMeets, child_columns}
use Rattle.vkg_schema.specs.Rows.{Row, agree, has_no_null, rows_of}
use Rattle.vkg_tables.specs.Checks.{broken_references, is_orphan, key_fault, reference_fault, repeated_keys, repeats, table_fault, with_itself}
use Rattle.vkg_tables.specs.Firsts.{earlier, first_after, first_orphan, first_repeat}
use Rattle.vkg_tables.proofs.Places.{first_table, least_place, least_place-first, tables-first}
use Rattle.vkg_tables.specs.Seen.{HoldsCells}
use Rattle.vkg_tables.specs.declared.fault.TableFault.{TableFault}

-- no element passes
none-step : {A : Type 0} (p : List A → A → Bool) (before : List A) (x : A) (xs : List A) → first_after p before (x ∷ xs) ≡ None → (p before x ≡ false) × (first_after p (before ++ x ∷ []) xs ≡ None)
none-step p before x xs e = by (p before x) refl e
  where
    by : (b : Bool) → p before x ≡ b → ◌≡◌ {A = Option ℕ} (if b then Some (length before + 1) else first_after p (before ++ x ∷ []) xs) None → (p before x ≡ false) × (first_after p (before ++ x ∷ []) xs ≡ None)
    by true h f = cc f
    by false h f = (h, f)

apart : (key : List ℕ) (before : List Row) (r : Row) (rows : List Row) → AllByRecursion (λ s. repeats key (before ++ r ∷ []) s ≡ false) rows
    → AllByRecursion (λ s. IsFalse (agree (with_itself key) s r)) rows × AllByRecursion (λ s. repeats key before s ≡ false) rows
apart key before r [] h = (tt, tt)
apart key before r (s ∷ rows) h =
    let two = neither (repeats key before s) (agree (with_itself key) s r) (sym (any_more (agree (with_itself key) s) before r) ∙ h.0) in
    let more = apart key before r rows h.1 in
    ((two.1, more.0), (two.0, more.1))

holds-after : (key : Key) (before rows : List Row) → first_after (repeats key.columns) before rows ≡ None → KeyHolds key rows × AllByRecursion (λ s. repeats key.columns before s ≡ false) rows
holds-after key before [] e = (tt, tt)
holds-after key before (r ∷ rows) e =
    let one = none-step (repeats key.columns) before r rows e in
    let more = holds-after key (before ++ r ∷ []) rows one.1 in
    let both = apart key.columns before r rows more.1 in
    ((both.0, more.0), (one.0, both.1))

pub key-holds : (key : Key) (rows : List Row) → first_repeat key.columns rows ≡ None → KeyHolds key rows
key-holds key rows e = (holds-after key [] rows e).0

found-there : (a b : Bool) → a && not b ≡ false → IsTrue a → IsTrue b
found-there true true e t = refl
found-there true false e t = cc e
found-there false b e t = cc t

refers-after : (db : List (List Row)) (reference : Reference) (before rows : List Row)
    → first_after (λ before row. is_orphan reference.pairs (rows_of db reference.table) row) before rows ≡ None → ReferenceHolds db rows reference
refers-after db reference before [] e = tt
refers-after db reference before (r ∷ rows) e =
    let one = none-step (λ before row. is_orphan reference.pairs (rows_of db reference.table) row) before r rows e in
    (found-there (has_no_null (child_columns reference) r) (list_any (agree reference.pairs r) (rows_of db reference.table)) one.0, refers-after db reference (before ++ r ∷ []) rows one.1)

no-earlier : (a b : Option (ℕ × ℕ)) → earlier a b ≡ None → (a ≡ None) × (b ≡ None)
no-earlier None b e = (refl, e)
no-earlier (Some a) None e = cc e
no-earlier (Some a) (Some b) e = by (nat_lt b.0 a.0) e
  where
    by : (p : Bool) → ◌≡◌ {A = Option (ℕ × ℕ)} (if p then Some b else Some a) None → (◌≡◌ {A = Option (ℕ × ℕ)} (Some a) None) × (◌≡◌ {A = Option (ℕ × ℕ)} (Some b) None)
    by true h = cc h
    by false h = cc h

no-place : {X : Type 0} (f : X → Option ℕ) (n : ℕ) (xs : List X) → least_place f n xs ≡ None → AllByRecursion (λ x. f x ≡ None) xs
no-place f n [] e = tt
no-place f n (x ∷ xs) e = let two = no-earlier (option_map (λ r. (r, n)) (f x)) (least_place f (n + 1) xs) e in (map_lacking (λ r. (r, n)) (f x) two.0, no-place f (n + 1) xs two.1)

no-first : (a b : Option TableFault) → option_or a b ≡ None → (a ≡ None) × (b ≡ None)
no-first None b e = (refl, e)
no-first (Some p) b e = cc e

meets : (all : List (List Row)) (n : ℕ) (ts : List Table) (dbs : List (List Row)) → HoldsCells ts dbs
    → first_table 9 (λ t rows. slice_get (repeated_keys t rows) 0) n ts dbs ≡ None → first_table 10 (λ t rows. slice_get (broken_references all t rows) 0) n ts dbs ≡ None → AllZip (TableMeets all) ts dbs
meets all n [] [] h k r = tt
meets all n [] (rows ∷ dbs) h k r = absurd h
meets all n (t ∷ ts) [] h k r = absurd h
meets all n (t ∷ ts) (rows ∷ dbs) h k r =
    let keys = no-first (option_map (table_fault 9 n) (slice_get (repeated_keys t rows) 0)) (first_table 9 (λ t rows. slice_get (repeated_keys t rows) 0) (n + 1) ts dbs) k in
    let refs = no-first (option_map (table_fault 10 n) (slice_get (broken_references all t rows) 0)) (first_table 10 (λ t rows. slice_get (broken_references all t rows) 0) (n + 1) ts dbs) r in
    let key_none = least_place-first (λ key before row. repeats key.columns before row) t.keys rows ∙ map_lacking (table_fault 9 n) (slice_get (repeated_keys t rows) 0) keys.0 in
    let ref_none = least_place-first (λ reference before row. is_orphan reference.pairs (rows_of all reference.table) row) t.references rows ∙ map_lacking (table_fault 10 n) (slice_get (broken_references all t rows) 0) refs.0 in (
      record {
        cells = h.0;
        keys = recursion_weaken _ (λ key. KeyHolds key rows) t.keys (λ key e. key-holds key rows e) (no-place (λ key. first_repeat key.columns rows) 1 t.keys key_none);
        references = recursion_weaken _ (ReferenceHolds all rows) t.references (λ ref e. refers-after all ref [] rows e) (no-place (λ ref. first_orphan ref.pairs (rows_of all ref.table) rows) 1 t.references ref_none);
      },
      meets all (n + 1) ts dbs h.1 keys.1 refs.1,
    )

-- after both checks the database meets its schema
pub meets_schema : (tables : List Table) (db : List (List Row)) → HoldsCells tables db → key_fault tables db ≡ None → reference_fault tables db ≡ None → MeetsSchema tables db
meets_schema tables db h k r = meets db 1 tables db h (tables-first 9 repeated_keys 1 tables db ∙ k) (tables-first 10 (broken_references db) 1 tables db ∙ r)
