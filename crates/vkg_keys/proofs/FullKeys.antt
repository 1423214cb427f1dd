-- Rows of a table by a key without NULL.
use Rattle.std.proofs.Common.{◌≡◌, ◌∙◌, ℕ, Bool, true, false, cond, true≢false, not, List, [], ◌∷◌, Option, Some, None, refl, sym, ap, subst}
use Rattle.std.specs.Prelude.{slice_get}
use Rattle.std.specs.List.{AllByRecursion, AllZip, Contains, list_all}
use Rattle.std.specs.Option.{option_map_or}
use Rattle.vkg_lists.proofs.Bools.{and_parts, and_true}
use Rattle.vkg_lists.proofs.Members.{Contains-filter, Contains-only}
use Rattle.vkg_cells.specs.declared.cell.Cell.{Cell}
use Rattle.vkg_cells.specs.declared.cell.Cell.TheVariants as cell
use Rattle.vkg_schema.specs.declared.table.Column.{Column}
use Rattle.vkg_schema.specs.declared.table.Key.{Key}
use Rattle.vkg_schema.specs.declared.table.Table.{Table}
use Rattle.vkg_schema.specs.Meets.{FitsColumn, KeyHolds}
use Rattle.vkg_schema.specs.Rows.{Row, agree, cell_at, has_no_null, is_known, is_null}
use Rattle.vkg_keys.specs.Keys.{is_full_column, with_itself}
use Rattle.vkg_keys.proofs.Agreement.{agree-same}
use Rattle.vkg_keys.proofs.OnlyOne.{only_itself}
use Rattle.vkg_keys.proofs.TableRows.{cell_fits}

pub some_true : {A : Type 0} (f : A → Bool) (o : Option A) → option_map_or f o false ≡ true → (x : A) × (o ≡ Some x) × (f x ≡ true)
some_true f None e = absurd (true≢false (sym e))
some_true f (Some x) e = (x, refl, e)

not-null : (c : Cell) → (c ≡ cell.Null → ⊥) → not (is_null c) ≡ true
not-null cell.Null n = absurd (n refl)
not-null c n = refl

known-column : (table : Table) (r : Row) → AllZip FitsColumn table.columns r → (k : ℕ) → is_full_column table k ≡ true → is_known r k ≡ true
unfolding is_known
known-column table r f k h =
    let c = some_true (λ (c : Column). c.not_null) (slice_get table.columns k) h in
    not-null (cell_at r k) ((cell_fits table.columns r f k c.0 c.1).not_null c.2)

pub full-known : (table : Table) (r : Row) → AllZip FitsColumn table.columns r → (columns : List ℕ) → list_all (is_full_column table) columns ≡ true → has_no_null columns r ≡ true
full-known table r f [] h = refl
full-known table r f (k ∷ columns) h =
    let b = and_parts (is_full_column table k) (list_all (is_full_column table) columns) h in
    and_true (is_known r k) (has_no_null columns r) (known-column table r f k b.0) (full-known table r f columns b.1)

-- rows of a table with the same cells in such a key are one
pub one_with_key : (key : Key) (rows : List Row) → KeyHolds key rows → (z w : Row) → Contains rows z → Contains rows w → has_no_null key.columns z ≡ true → AllByRecursion (λ k. cell_at z k ≡ cell_at w k) key.columns → z ≡ w
one_with_key key rows h z w cz cw known same =
    let one = only_itself key rows h z cz ∙ ap (λ b. cond b (z ∷ []) []) known in
    Contains-only z w (subst (λ l. Contains l w) one (Contains-filter (agree (with_itself key.columns) z) rows w cw (agree-same key.columns z w same ∙ known)))
