-- What a database keeps, after texts were added and a table was put in the place of another.
use Rattle.std.proofs.Common.{◌≡◌, ◌∙◌, ◌+◌, ◌<◌, ◌≤◌, ◌++◌, ◌∷◌, [], ℕ, zero, suc, List, refl, sym, ap, ap₂, subst, arith, length, get_or, map, take}
use Rattle.std.specs.Prelude.{slice_set}
use Rattle.std.specs.List.{AllByRecursion, AllZip}
use Rattle.std.proofs.lemmas.List.{map-append, map-set, take_more}
use Rattle.std.proofs.lemmas.Slice.Zip.{AllZip-long}
use Rattle.indexmap.proofs.SetLemmas.{AllZip-push}
use Rattle.vkg_lists.proofs.Members.{recursion_at}
use Rattle.vkg_schema.specs.declared.table.Table.{Table}
use Rattle.vkg_schema.specs.Meets.{FitsColumn, IsColumn, IsTable}
use Rattle.vkg_schema.specs.Rows.{rows_of}
use Rattle.vkg_store.specs.Stored.{Extends, IsStored, TableNumbers, table_seen}
use Rattle.vkg_store.proofs.StoredLemmas.{IsStored-more, table_seen-more}
use Rattle.vkg_tables.specs.Kept.{AreStored, IsKept, tables_seen}
use Rattle.vkg_tables.specs.Seen.{HoldsCells, columns_of}
use Rattle.vkg_tables.proofs.FitLemmas.{set-holds}

-- more texts change no row
pub more-seen : (old new : List (List ℕ)) (schema : List Table) (tables : List TableNumbers) → Extends old new → AreStored old schema tables → tables_seen new tables ≡ tables_seen old tables
more-seen old new [] [] e h = refl
more-seen old new [] (s ∷ ss) e h = absurd h
more-seen old new (t ∷ ts) [] e h = absurd h
more-seen old new (t ∷ ts) (s ∷ ss) e h = λ i. table_seen-more old new t.columns s e h.0 i ∷ more-seen old new ts ss e h.1 i

more-stored : (old new : List (List ℕ)) (schema : List Table) (tables : List TableNumbers) → Extends old new → AreStored old schema tables → AreStored new schema tables
more-stored old new [] [] e h = tt
more-stored old new [] (s ∷ ss) e h = absurd h
more-stored old new (t ∷ ts) [] e h = absurd h
more-stored old new (t ∷ ts) (s ∷ ss) e h = (IsStored-more old new t.columns s e h.0, more-stored old new ts ss e h.1)

pub more-kept : (schema : List Table) (old new : List (List ℕ)) (tables : List TableNumbers) → IsKept schema old tables → Extends old new → IsKept schema new tables
more-kept schema old new tables k e = record {
  stored = more-stored old new schema tables e k.stored;
  holds = subst (HoldsCells schema) (sym (more-seen old new schema tables e k.stored)) k.holds;
}

-- a table in the place of another
put-stored : (texts : List (List ℕ)) (schema : List Table) (tables : List TableNumbers) (i : ℕ) (s : TableNumbers) → i < length schema → AreStored texts schema tables → IsStored texts (columns_of schema i) s → AreStored texts schema (slice_set tables i s)
put-stored texts [] tables i s l h f = absurd (omega (arith, l))
put-stored texts (t ∷ ts) [] i s l h f = absurd h
put-stored texts (t ∷ ts) (x ∷ xs) zero s l h f = (f, h.1)
put-stored texts (t ∷ ts) (x ∷ xs) (suc i) s l h f = (h.0, put-stored texts ts xs i s (omega (arith, l)) h.1 f)

pub put-seen : (schema : List Table) (old new : List (List ℕ)) (tables : List TableNumbers) (i : ℕ) (s : TableNumbers) → AreStored old schema tables → Extends old new
    → tables_seen new (slice_set tables i s) ≡ slice_set (tables_seen old tables) i (table_seen new s)
put-seen schema old new tables i s h e = map-set (table_seen new) tables i s ∙ ap (λ db. slice_set db i (table_seen new s)) (more-seen old new schema tables e h)

pub put-kept : (schema : List Table) (old new : List (List ℕ)) (tables : List TableNumbers) (i : ℕ) (s : TableNumbers) → i < length schema → IsKept schema old tables → Extends old new
    → IsStored new (columns_of schema i) s → AllByRecursion (AllZip FitsColumn (columns_of schema i)) (table_seen new s) → IsKept schema new (slice_set tables i s)
put-kept schema old new tables i s l k e h fits = record {
  stored = put-stored new schema tables i s l (more-stored old new schema tables e k.stored) h;
  holds = subst (HoldsCells schema) (sym (put-seen schema old new tables i s k.stored e)) (set-holds schema (tables_seen old tables) i (table_seen new s) l k.holds fits);
}

-- a table at its place
pub rows-past : (texts : List (List ℕ)) (tables : List TableNumbers) (i : ℕ) → length tables ≤ i → rows_of (tables_seen texts tables) i ≡ []
rows-past texts [] i h = refl
rows-past texts (s ∷ ss) zero h = absurd (omega (arith, h))
rows-past texts (s ∷ ss) (suc i) h = rows-past texts ss i (omega (arith, h))

pub rows-within : (texts : List (List ℕ)) (tables : List TableNumbers) (i : ℕ) (d : TableNumbers) → i < length tables → table_seen texts (get_or tables i d) ≡ rows_of (tables_seen texts tables) i
rows-within texts [] i d l = absurd (omega (arith, l))
rows-within texts (s ∷ ss) zero d l = refl
rows-within texts (s ∷ ss) (suc i) d l = rows-within texts ss i d (omega (arith, l))

stored-within : (texts : List (List ℕ)) (schema : List Table) (tables : List TableNumbers) (i : ℕ) (d : TableNumbers) → i < length schema → AreStored texts schema tables → IsStored texts (columns_of schema i) (get_or tables i d)
stored-within texts [] tables i d l h = absurd (omega (arith, l))
stored-within texts (t ∷ ts) [] i d l h = absurd h
stored-within texts (t ∷ ts) (s ∷ ss) zero d l h = h.0
stored-within texts (t ∷ ts) (s ∷ ss) (suc i) d l h = stored-within texts ts ss i d (omega (arith, l)) h.1

pub stored-there : (schema : List Table) (texts : List (List ℕ)) (tables : List TableNumbers) (i : ℕ) (s : TableNumbers) → i < length schema → IsKept schema texts tables → s ≡ get_or tables i s → IsStored texts (columns_of schema i) s
stored-there schema texts tables i s l k e = subst (IsStored texts (columns_of schema i)) (sym e) (stored-within texts schema tables i s l k.stored)

-- there is a table for each of the schema
pub there : (schema : List Table) (texts : List (List ℕ)) (tables : List TableNumbers) (i : ℕ) → i < length schema → IsKept schema texts tables → i < length tables
there schema texts tables i l k = subst (λ n. i < n) (sym (AllZip-long (λ t s. IsStored texts t.columns s) schema tables k.stored)) l

-- the columns of a table hold no terms
pub columns-are : (all tables : List Table) (i : ℕ) (d : Table) → AllByRecursion (IsTable all) tables → i < length tables → AllByRecursion IsColumn (get_or tables i d).columns
columns-are all tables i d h l = (recursion_at (IsTable all) tables i d h l).columns

-- one table more
next-taken : {A : Type 0} (xs : List A) (i : ℕ) (x : A) → i < length xs → x ≡ get_or xs i x → take (i + 1) xs ≡ take i xs ++ x ∷ []
next-taken xs i x l e = take_more xs i x l ∙ ap (λ y. take i xs ++ y ∷ []) (sym e)

pub stored-next : (texts : List (List ℕ)) (schema : List Table) (tables : List TableNumbers) (i : ℕ) (t : Table) (s : TableNumbers) → i < length schema → t ≡ get_or schema i t
    → AreStored texts (take i schema) tables → IsStored texts t.columns s → AreStored texts (take (i + 1) schema) (tables ++ s ∷ [])
stored-next texts schema tables i t s l e h f =
    subst (λ ts. AreStored texts ts (tables ++ s ∷ [])) (sym (next-taken schema i t l e)) (AllZip-push (λ t s. IsStored texts t.columns s) (take i schema) tables t s h f)

pub seen-next : (texts : List (List ℕ)) (schema : List Table) (tables : List TableNumbers) (i : ℕ) (t : Table) (s : TableNumbers) → i < length schema → t ≡ get_or schema i t
    → tables_seen texts tables ≡ map (λ t. []) (take i schema) → table_seen texts s ≡ [] → tables_seen texts (tables ++ s ∷ []) ≡ map (λ t. []) (take (i + 1) schema)
seen-next texts schema tables i t s l e h f =
    map-append (table_seen texts) tables (s ∷ []) ∙ ap₂ (λ a b. a ++ b ∷ []) h f
    ∙ sym (ap (map (λ (t : Table). [])) (next-taken schema i t l e) ∙ map-append (λ (t : Table). []) (take i schema) (t ∷ []))

-- what holds of each image holds of one
pub mapped-at : {X Y : Type 0} (P : Y → Type 0) (f : X → Y) (xs : List X) (i : ℕ) (d : X) → AllByRecursion P (map f xs) → i < length xs → P (f (get_or xs i d))
mapped-at P f [] i d h l = absurd (omega (arith, l))
mapped-at P f (x ∷ xs) zero d h l = h.0
mapped-at P f (x ∷ xs) (suc i) d h l = mapped-at P f xs i d h.1 (omega (arith, l))
