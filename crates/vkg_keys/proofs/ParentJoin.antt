-- A table joined with the one that it refers to, among other members, where nothing of the parent is used that the child does not give: the parent goes.
use Rattle.std.proofs.Common.{◌≡◌, ℕ, ◌+◌, Bool, true, false, List, ◌++◌, Some, length, map, sym, subst}
use Rattle.std.specs.Prelude.{slice_get}
use Rattle.std.specs.List.{AllByRecursion, Contains, filter, list_all}
use Rattle.std.specs.List.Sorted.{IsPermutation}
use Rattle.vkg_lists.specs.Lists.{AllBelow}
use Rattle.vkg_lists.proofs.Each.{recursion_get}
use Rattle.vkg_lists.proofs.Members.{each_from_recursion}
use Rattle.vkg_schema.specs.declared.table.Reference.{Reference}
use Rattle.vkg_schema.specs.declared.table.Table.{Table}
use Rattle.vkg_schema.specs.Meets.{IsReference, IsTable, IsWellFormed, MeetsSchema, RefersTo, child_columns, parent_columns}
use Rattle.vkg_schema.specs.Rows.{Database, Row, agree, cell_at, has_no_null, rows_of}
use Rattle.vkg_expr.specs.Expr.{Expr}
use Rattle.vkg_expr.specs.Value.{holds}
use Rattle.vkg_plan.specs.Kinds.{Tables}
use Rattle.vkg_plan.specs.Rows.{pairs}
use Rattle.vkg_keys.specs.Keys.{AreWide, is_of_one_kind}
use Rattle.vkg_keys.specs.Ties.{all_tied}
use Rattle.vkg_keys.proofs.Parents.{one_cells, walk-any_parent}
use Rattle.vkg_keys.proofs.Parts.{tied-before, tied-behind}
use Rattle.vkg_keys.proofs.Products.{parents_before, parents_behind}
use Rattle.vkg_keys.proofs.TableRows.{row_fits, row_length, table_meets}

pub table_wide : (s : Tables) (db : Database) → MeetsSchema s db → (at : ℕ) (table : Table) → slice_get s at ≡ Some table → AreWide (length table.columns) (rows_of db at)
table_wide s db meets at table e r c = row_length table.columns r (row_fits db table (rows_of db at) (table_meets s db meets at table e) r c)

module _ (s : Tables) (db : Database) (well_formed : IsWellFormed s) (meets : MeetsSchema s db) (at : ℕ) (child : Table) (is_child : slice_get s at ≡ Some child) (reference : Reference) (is_one : Contains child.references reference)
    (parent : Table) (is_parent : slice_get s reference.table ≡ Some parent) (refers_to : RefersTo reference parent) where
  abbrev children : List Row
  children = rows_of db at

  abbrev parents : List Row
  parents = rows_of db reference.table

  wide_children : AreWide (length child.columns) children
  wide_children = table_wide s db meets at child is_child

  wide_parents : AreWide (length parent.columns) parents
  wide_parents = table_wide s db meets reference.table parent is_parent

  pub inside_child : AllBelow (length child.columns) (child_columns reference)
  inside_child =
      let t : IsTable s child = recursion_get (IsTable s) s at child well_formed is_child in
      let i : IsReference s child reference = each_from_recursion (IsReference s child) child.references t.references reference is_one in
      i.children

  -- the cells of the key are the child's, where the columns of each pair are of one kind
  pub parent_cells : list_all (is_of_one_kind child.columns parent.columns) reference.pairs ≡ true → (r q : Row) → Contains children r → Contains parents q → agree reference.pairs r q ≡ true → AllByRecursion (λ p. cell_at r p.0 ≡ cell_at q p.1) reference.pairs
  parent_cells k r q c d e = one_cells child parent r q
      (row_fits db child children (table_meets s db meets at child is_child) r c)
      (row_fits db parent parents (table_meets s db meets reference.table parent is_parent) q d)
      reference.pairs k e

  module _ {B : Type 0} (c : Expr) (before between after : List Row) (n k : ℕ) (wide_before : AreWide n before) (wide_between : AreWide k between) (g : Row → B) (test : Row → Bool) (h : Row → B) where
    -- the parent stands behind the child
    pub parent_join-behind : all_tied c n (n + (length child.columns + k)) reference.pairs ≡ true →
        ((a r b q d : Row) → Contains before a → Contains children r → Contains between b → Contains parents q → Contains after d → agree reference.pairs r q ≡ true → holds c (a ++ (r ++ (b ++ (q ++ d)))) ≡ test (a ++ (r ++ (b ++ d)))) →
        ((a r b q d : Row) → Contains before a → Contains children r → Contains between b → Contains parents q → Contains after d → agree reference.pairs r q ≡ true → g (a ++ (r ++ (b ++ (q ++ d)))) ≡ h (a ++ (r ++ (b ++ d)))) →
        ((a r b d : Row) → Contains before a → Contains children r → Contains between b → Contains after d → has_no_null (child_columns reference) r ≡ false → test (a ++ (r ++ (b ++ d))) ≡ false) →
        map g (filter (holds c) (pairs before (pairs children (pairs between (pairs parents after))))) ≡ map h (filter test (pairs before (pairs children (pairs between after))))
    parent_join-behind t on equal null = parents_behind reference.pairs children parents (walk-any_parent s db well_formed meets at child is_child reference is_one) before between after (holds c) g test h
        (record {
          off = λ a r b q d ca cr cb cq cd e. tied-behind c reference.pairs n (length child.columns) k a r b q d (wide_before a ca) (wide_children r cr) (wide_between b cb) inside_child
              (subst (λ m. AllBelow m (parent_columns reference)) (sym (wide_parents q cq)) refers_to.parents) t e;
          on = on;
          equal = equal;
          null = null;
        })

    -- the parent stands before the child
    pub parent_join-before : all_tied c (n + (length parent.columns + k)) n reference.pairs ≡ true →
        ((a r b q d : Row) → Contains before a → Contains children r → Contains between b → Contains parents q → Contains after d → agree reference.pairs r q ≡ true → holds c (a ++ (q ++ (b ++ (r ++ d)))) ≡ test (a ++ (b ++ (r ++ d)))) →
        ((a r b q d : Row) → Contains before a → Contains children r → Contains between b → Contains parents q → Contains after d → agree reference.pairs r q ≡ true → g (a ++ (q ++ (b ++ (r ++ d)))) ≡ h (a ++ (b ++ (r ++ d)))) →
        ((a r b d : Row) → Contains before a → Contains children r → Contains between b → Contains after d → has_no_null (child_columns reference) r ≡ false → test (a ++ (b ++ (r ++ d))) ≡ false) →
        IsPermutation (map g (filter (holds c) (pairs before (pairs parents (pairs between (pairs children after)))))) (map h (filter test (pairs before (pairs between (pairs children after)))))
    parent_join-before t on equal null = parents_before reference.pairs children parents (walk-any_parent s db well_formed meets at child is_child reference is_one) before between after (holds c) g test h
        (record {
          off = λ a r b q d ca cr cb cq cd e. tied-before c reference.pairs n (length parent.columns) k a r b q d (wide_before a ca) (wide_parents q cq) (wide_between b cb)
              (subst (λ m. AllBelow m (child_columns reference)) (sym (wide_children r cr)) inside_child) refers_to.parents t e;
          on = on;
          equal = equal;
          null = null;
        })
