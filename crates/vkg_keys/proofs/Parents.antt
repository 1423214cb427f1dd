-- A row without NULL in a foreign key has exactly one row that it refers to, and each other row has none.
use Rattle.std.proofs.Common.{◌≡◌, ◌∙◌, ℕ, Bool, true, false, cond, List, [], ◌∷◌, Option, Some, refl, sym, ap, subst}
use Rattle.std.specs.Prelude.{IfSome, slice_get}
use Rattle.std.specs.List.{AllByRecursion, AllZip, Contains, filter, flat_map, list_all}
use Rattle.vkg_lists.proofs.Bools.{and_parts}
use Rattle.vkg_lists.proofs.Counts.{eq_same}
use Rattle.vkg_lists.proofs.Each.{recursion_get}
use Rattle.vkg_lists.proofs.Members.{each_from_recursion}
use Rattle.vkg_lists.proofs.Positions.{Found, found, get_below, get_member}
use Rattle.vkg_cells.specs.Form.{IsOfKind}
use Rattle.vkg_schema.specs.declared.table.Column.{Column}
use Rattle.vkg_schema.specs.declared.table.Key.{Key}
use Rattle.vkg_schema.specs.declared.table.Reference.{Reference}
use Rattle.vkg_schema.specs.declared.table.Table.{Table}
use Rattle.vkg_schema.specs.Meets.{Comparable, FitsColumn, IsReference, IsTable, IsWellFormed, MeetsSchema, ReferenceHolds, RefersTo, TableMeets, child_columns, parent_columns, same_columns}
use Rattle.vkg_schema.specs.Rows.{Database, Row, agree, cell_at, equal_at, has_no_null, is_known_true, rows_of}
use Rattle.vkg_expr.proofs.ValueFits.{kinds_apart}
use Rattle.vkg_plan.specs.Kinds.{Tables}
use Rattle.vkg_keys.specs.Keys.{AtMostOne, IsPartner, are_among, is_of_one_kind, is_one_kind}
use Rattle.vkg_keys.proofs.SameCells.{same-comm, same-known, same-one}
use Rattle.vkg_keys.proofs.OnlyOne.{null_has_none, one-there, only_one_tied, walk-none, walk-one}
use Rattle.vkg_keys.proofs.TableRows.{cell_fits, column_of, key_holds, known_of_kind, table_meets}

-- ---- the table that is referred to

pub refers : (s : Tables) → IsWellFormed s → (at : ℕ) (child : Table) → slice_get s at ≡ Some child → (reference : Reference) → Contains child.references reference →
    (parent : Table) × (slice_get s reference.table ≡ Some parent) × RefersTo reference parent
refers s w at child e reference c =
    let t : IsTable s child = recursion_get (IsTable s) s at child w e in
    let i : IsReference s child reference = each_from_recursion (IsReference s child) child.references t.references reference c in
    let g = get_below s reference.table i.inside in
    (g.0, g.1, (subst (λ o. IfSome o (λ p. RefersTo reference p × AllByRecursion (Comparable child p) reference.pairs)) g.1 i.target).0)

-- at most one row is referred to, by any row
pub one_parent_at_most : (db : Database) (reference : Reference) (parent : Table) (rows : List Row) → RefersTo reference parent → TableMeets db parent rows → (r : Row) → AtMostOne (agree reference.pairs r) rows
one_parent_at_most db reference parent rows to m r =
    let f = found (λ k. same_columns (parent_columns reference) k.columns) parent.keys to.key in
    let k : Found (λ (k : Key). same_columns (parent_columns reference) k.columns) parent.keys f.0 f.1 = f.2 in
    let among : are_among f.1.columns (parent_columns reference) ≡ true = (and_parts _ (are_among f.1.columns (parent_columns reference)) k.passes).1 in
    only_one_tied f.1 reference.pairs rows r among (key_holds db parent rows m f.1 (get_member parent.keys f.0 f.1 k.at))

-- and by a row without NULL in the foreign key, one is
pub one_parent : (db : Database) (reference : Reference) (parent : Table) (rows : List Row) → RefersTo reference parent → TableMeets db parent (rows_of db reference.table) → ReferenceHolds db rows reference →
    (r : Row) → Contains rows r → has_no_null (child_columns reference) r ≡ true → (q : Row) × IsPartner reference.pairs r (rows_of db reference.table) q
one_parent db reference parent rows to m h r c known =
    let there = each_from_recursion _ rows h r c known in
    let one = one-there (agree reference.pairs r) (rows_of db reference.table) (one_parent_at_most db reference parent (rows_of db reference.table) to m r) there in
    (one.0, record { member = one.1; agrees = one.2; alone = one.3 })

-- ---- over a schema

module _ (s : Tables) (db : Database) (well_formed : IsWellFormed s) (meets : MeetsSchema s db) (at : ℕ) (child : Table) (is_child : slice_get s at ≡ Some child) (reference : Reference) (is_one : Contains child.references reference) where
  abbrev parents : List Row
  parents = rows_of db reference.table

  pub the_parent : (r : Row) → Contains (rows_of db at) r → has_no_null (child_columns reference) r ≡ true → (q : Row) × IsPartner reference.pairs r parents q
  the_parent r c known =
      let p = refers s well_formed at child is_child reference is_one in
      let m = table_meets s db meets at child is_child in
      one_parent db reference p.0 (rows_of db at) p.2 (table_meets s db meets reference.table p.0 p.1) (each_from_recursion (ReferenceHolds db (rows_of db at)) child.references m.references reference is_one) r c known

  pub no_parent : (r : Row) → has_no_null (child_columns reference) r ≡ false → filter (agree reference.pairs r) parents ≡ []
  no_parent r h = null_has_none reference.pairs parents r h

  module _ {B : Type 0} where
    -- a walk of the parents gives what it gives of the one
    pub walk-parent : (f : Row → List B) (r q : Row) → IsPartner reference.pairs r parents q → flat_map (λ x. cond (agree reference.pairs r x) (f x) []) parents ≡ f q
    walk-parent f r q h = walk-one (agree reference.pairs r) f parents q h.alone

    pub walk-no_parent : (f : Row → List B) (r : Row) → has_no_null (child_columns reference) r ≡ false → flat_map (λ x. cond (agree reference.pairs r x) (f x) []) parents ≡ []
    walk-no_parent f r h = walk-none (agree reference.pairs r) f parents (no_parent r h)

    -- where each parent gives the same
    pub walk-any_parent : (r : Row) → Contains (rows_of db at) r → (ys : List B) → flat_map (λ x. cond (agree reference.pairs r x) ys []) parents ≡ cond (has_no_null (child_columns reference) r) ys []
    walk-any_parent r c ys = by (has_no_null (child_columns reference) r) refl
      where
        by : (b : Bool) → has_no_null (child_columns reference) r ≡ b → flat_map (λ x. cond (agree reference.pairs r x) ys []) parents ≡ cond b ys []
        by true e = let p = the_parent r c e in walk-parent (λ x. ys) r p.0 p.1
        by false e = walk-no_parent (λ x. ys) r e

-- ---- the cells of the two

-- the kinds of two columns that are there
pub kinds-are : (o p : Option Column) (c d : Column) → o ≡ Some c → p ≡ Some d → is_one_kind o p ≡ true → c.kind ≡ d.kind
kinds-are o p c d e f h = eq_same kinds_apart c.kind d.kind (sym (λ i. is_one_kind (e i) (f i)) ∙ h)

one-cell : (child parent : Table) (r q : Row) → AllZip FitsColumn child.columns r → AllZip FitsColumn parent.columns q → (p : ℕ × ℕ) → is_of_one_kind child.columns parent.columns p ≡ true → equal_at r q p ≡ true → cell_at r p.0 ≡ cell_at q p.1
unfolding equal_at
one-cell child parent r q f g p k e =
    let known_r = same-known (cell_at r p.0) (cell_at q p.1) e in
    let known_q = same-known (cell_at q p.1) (cell_at r p.0) (ap is_known_true (same-comm (cell_at q p.1) (cell_at r p.0)) ∙ e) in
    let c = column_of child.columns r f p.0 known_r in
    let d = column_of parent.columns q g p.1 known_q in
    let is : c.0.kind ≡ d.0.kind = kinds-are (slice_get child.columns p.0) (slice_get parent.columns p.1) c.0 d.0 c.1 d.1 k in
    same-one d.0.kind (cell_at r p.0) (cell_at q p.1)
    (subst (λ t. IsOfKind t (cell_at r p.0)) is (known_of_kind c.0.kind (cell_at r p.0) known_r (cell_fits child.columns r f p.0 c.0 c.1).kind))
    (known_of_kind d.0.kind (cell_at q p.1) known_q (cell_fits parent.columns q g p.1 d.0 d.1).kind)
    e

-- rows that agree in pairs of columns of one kind each have the same cells there
pub one_cells : (child parent : Table) (r q : Row) → AllZip FitsColumn child.columns r → AllZip FitsColumn parent.columns q →
    (ties : List (ℕ × ℕ)) → list_all (is_of_one_kind child.columns parent.columns) ties ≡ true → agree ties r q ≡ true → AllByRecursion (λ p. cell_at r p.0 ≡ cell_at q p.1) ties
one_cells child parent r q f g [] k e = tt
one_cells child parent r q f g (p ∷ ties) k e =
    let a = and_parts (is_of_one_kind child.columns parent.columns p) (list_all (is_of_one_kind child.columns parent.columns) ties) k in
    let b = and_parts (equal_at r q p) (agree ties r q) e in
    (one-cell child parent r q f g p a.0 b.0, one_cells child parent r q f g ties a.1 b.1)
