-- A row behind those of a table.
use Rattle.std.proofs.Common.{◌≡◌, ◌∙◌, ◌<◌, ◌++◌, ◌∷◌, [], ℕ, List, sym, ap, subst, length, get_or}
use Rattle.std.specs.Prelude.{Result, Ok, Err, OnErr, OnOk, slice_set}
use Rattle.std.specs.List.{AllByRecursion, AllZip}
use Rattle.vkg_lists.proofs.Members.{recursion_push}
use Rattle.vkg_schema.specs.declared.table.Table.{Table}
use Rattle.vkg_schema.specs.Meets.{FitsColumn}
use Rattle.vkg_schema.specs.Rows.{Row, rows_of}
use Rattle.vkg_store.specs.Stored.{Extends, IsStored, TableNumbers, table_seen}
use Rattle.vkg_store.proofs.StoredLemmas.{table_seen-more}
use Rattle.vkg_tables.specs.Kept.{IsKept, tables_seen}
use Rattle.vkg_tables.specs.Seen.{columns_of}
use Rattle.vkg_tables.proofs.FitLemmas.{holds-at, set-same}
use Rattle.vkg_tables.proofs.KeptLemmas.{put-kept, put-seen, rows-within, stored-there, there}

-- either answer of a call
either : {A E P Q C : Type 0} (r : Result A E) → OnOk r P → OnErr r Q → (P → C) → (Q → C) → C
either (Ok x) p q f g = f p
either (Err x) p q f g = g q

pub on-ok : {A E P Q : Type 0} (r : Result A E) → (P → Q) → OnOk r P → OnOk r Q
on-ok (Ok x) f p = f p
on-ok (Err x) f p = p

pub on-err : {A E P Q : Type 0} (r : Result A E) → (P → Q) → OnErr r P → OnErr r Q
on-err (Ok x) f p = p
on-err (Err x) f p = f p

-- the table t at a place becomes s; the texts new follow the old ones
module _ (schema : List Table) (old new : List (List ℕ)) (tables : List TableNumbers) (k : ℕ) (t s : TableNumbers) (row : Row)
    (lt : k < length schema) (kept : IsKept schema old tables) (e : Extends old new) (is : t ≡ get_or tables k t) where
  rows : table_seen old t ≡ rows_of (tables_seen old tables) k
  rows = ap (table_seen old) is ∙ rows-within old tables k t (there schema old tables k lt kept)

  fit : AllByRecursion (AllZip FitsColumn (columns_of schema k)) (table_seen old t)
  fit = subst (AllByRecursion (AllZip FitsColumn (columns_of schema k))) (sym rows) (holds-at schema (tables_seen old tables) k lt kept.holds)

  same : s ≡ t → table_seen new s ≡ table_seen old t
  same q = ap (table_seen new) q ∙ table_seen-more old new (columns_of schema k) t e (stored-there schema old tables k t lt kept is)

  pub pushed-kept : {A E : Type 0} (r : Result A E) → IsStored new (columns_of schema k) s → AllZip FitsColumn (columns_of schema k) row
      → OnOk r (table_seen new s ≡ table_seen old t ++ row ∷ []) → OnErr r (s ≡ t) → IsKept schema new (slice_set tables k s)
  pushed-kept r st fits ok err = either r ok err
      (λ q. put-kept schema old new tables k s lt kept e st (subst (AllByRecursion (AllZip FitsColumn (columns_of schema k))) (sym q) (recursion_push (AllZip FitsColumn (columns_of schema k)) (table_seen old t) row fit fits)))
      (λ q. put-kept schema old new tables k s lt kept e st (subst (AllByRecursion (AllZip FitsColumn (columns_of schema k))) (sym (same q)) fit))

  pub pushed-ok : {A E : Type 0} (r : Result A E) → OnOk r (table_seen new s ≡ table_seen old t ++ row ∷ [])
      → OnOk r (tables_seen new (slice_set tables k s) ≡ slice_set (tables_seen old tables) k (rows_of (tables_seen old tables) k ++ row ∷ []))
  pushed-ok r ok = on-ok r (λ q. put-seen schema old new tables k s kept.stored e ∙ ap (slice_set (tables_seen old tables) k) (q ∙ ap (λ rs. rs ++ row ∷ []) rows)) ok

  pub pushed-err : {A E : Type 0} (r : Result A E) → OnErr r (s ≡ t) → OnErr r (tables_seen new (slice_set tables k s) ≡ tables_seen old tables)
  pushed-err r err = on-err r (λ q. put-seen schema old new tables k s kept.stored e ∙ ap (slice_set (tables_seen old tables) k) (same q ∙ rows) ∙ set-same (tables_seen old tables) k) err
