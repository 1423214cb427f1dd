-- Over a database that meets the schema no such column is NULL in any row of the plan.
use Rattle.std.proofs.Common.{◌≡◌, ◌∙◌, ℕ, zero, suc, Bool, true, false, cond, ◌||◌, List, [], ◌∷◌, ◌++◌, map, refl, sym, ap, subst}
use Rattle.std.specs.Prelude.{Option, Some, is_some, fold, slice_get}
use Rattle.std.specs.List.{AllZip, Contains, list_all}
use Rattle.std.specs.Option.{option_map_or}
use Rattle.std.proofs.lemmas.Option.{same_Some}
use Rattle.vkg_lists.proofs.Bools.{and_parts, neither}
use Rattle.vkg_lists.proofs.Members.{Contains-from_filter, Contains-from_flat_map, Contains-from_map, Contains-only, each_from_recursion}
use Rattle.vkg_lists.proofs.Onto.{first_given, map_given}
use Rattle.vkg_lists.proofs.Results.{then_given}
use Rattle.vkg_cells.specs.declared.cell.Cell.{Cell}
use Rattle.vkg_cells.specs.declared.cell.Cell.TheVariants as cell
use Rattle.vkg_cells.specs.declared.cell.SqlType.{SqlType}
use Rattle.vkg_cells.specs.declared.cell.SqlType.TheVariants as kind
use Rattle.vkg_schema.specs.declared.table.Column.{Column}
use Rattle.vkg_schema.specs.declared.table.Table.{Table}
use Rattle.vkg_schema.specs.Meets.{FitsColumn, MeetsSchema}
use Rattle.vkg_schema.specs.Rows.{Database, Row, cell_at, is_known_true, is_null, rows_of as table_rows}
use Rattle.vkg_values.specs.Logic.{not3}
use Rattle.vkg_expr.specs.Expr.{Expr, IsNull, Not}
use Rattle.vkg_expr.specs.Laws.{FitsRow, HasKinds}
use Rattle.vkg_expr.specs.Logic.{conjuncts}
use Rattle.vkg_expr.specs.Strict.{columns, is_strict, names_column, nulls_on_null}
use Rattle.vkg_expr.specs.Typing.{is_one, kind_of}
use Rattle.vkg_expr.specs.Value.{holds, truth_cell, truth_of, value_of}
use Rattle.vkg_expr.proofs.TypedParts.{fits_row, one_is}
use Rattle.vkg_columns.proofs.Conjuncts.{AreTruths, IsTruth, conjuncts-kind, holds-conjuncts}
use Rattle.vkg_plan.specs.Kinds.{Kinds, Tables, beside_all, checked, kinds_of_each, plan_kinds}
use Rattle.vkg_plan.specs.Plan.{Plan, Plans, Unit as UnitPlan, Empty, Scan, Select, Project, Join, Left, AntiJoin, UnionAll, Distinct, Nil, More}
use Rattle.vkg_plan.specs.Rows.{product, rows_of, rows_of_each}
use Rattle.vkg_plan.proofs.RowsFit.{beside_is, checked_parts, rows-fit}
use Rattle.vkg_rules.specs.Measure.{kinds_or_none, or_no_kinds}
use Rattle.vkg_rules.specs.Parts.{checked-is}
use Rattle.vkg_shapes.specs.TableRows.{tables_fit}
use Rattle.vkg_nulls.specs.KnownColumnsLaw.{HasKnown}
use Rattle.vkg_nulls.specs.NullExactly.{any_null, null-exactly}
use Rattle.vkg_equalities.specs.TableColumns.{flag_at}
use Rattle.vkg_keys.proofs.TableRows.{row_fits, table_meets}
use Rattle.vkg_unique.specs.Sure.{sure_beside, sure_columns, unset, with_condition, with_conjunct, with_flag, with_flags, with_tested}

-- ---- flags of columns that are not NULL

pub known-at : (flags : List Bool) (row : Row) (at : ℕ) → HasKnown flags row → flag_at flags at ≡ true → is_null (cell_at row at) ≡ false
known-at [] row at h e = cc
known-at (f ∷ fs) [] at h e = absurd h
known-at (f ∷ fs) (c ∷ row) zero h e = h.0 e
known-at (f ∷ fs) (c ∷ row) (suc at) h e = known-at fs row at h.1 e

pub known-append : (fs gs : List Bool) (l r : Row) → HasKnown fs l → HasKnown gs r → HasKnown (fs ++ gs) (l ++ r)
known-append [] gs [] r h k = k
known-append [] gs (c ∷ l) r h k = absurd h
known-append (f ∷ fs) gs [] r h k = absurd h
known-append (f ∷ fs) gs (c ∷ l) r h k = (h.0, known-append fs gs l r h.1 k)

known-set : (flags : List Bool) (row : Row) (at : ℕ) → HasKnown flags row → is_null (cell_at row at) ≡ false → HasKnown (with_flag flags at) row
known-set [] row at h e = h
known-set (f ∷ fs) [] at h e = absurd h
known-set (f ∷ fs) (c ∷ row) zero h e = (λ t. e, h.1)
known-set (f ∷ fs) (c ∷ row) (suc at) h e = (h.0, known-set fs row at h.1 e)

known-all : (flags : List Bool) (row : Row) (columns : List ℕ) → HasKnown flags row → any_null row columns ≡ false → HasKnown (with_flags flags columns) row
known-all flags row [] h e = h
known-all flags row (at ∷ columns) h e =
    let b = neither (is_null (cell_at row at)) (any_null row columns) e in
    known-all (with_flag flags at) row columns (known-set flags row at h b.0) b.1

unset-row : (ks : Kinds) (row : Row) → HasKinds ks row → HasKnown (unset ks) row
unset-row [] [] h = tt
unset-row [] (c ∷ row) h = absurd h
unset-row (k ∷ ks) [] h = absurd h
unset-row (k ∷ ks) (c ∷ row) h = (λ t. cc, unset-row ks row h.1)

known-cell : (c : Cell) → (c ≡ cell.Null → ⊥) → is_null c ≡ false
known-cell cell.Null n = absurd (n refl)
known-cell _ n = refl

table-row : (columns : List Column) (row : Row) → AllZip FitsColumn columns row → HasKnown (map (λ c. c.not_null) columns) row
table-row [] [] h = tt
table-row [] (c ∷ row) h = absurd h
table-row (k ∷ ks) [] h = absurd h
table-row (k ∷ ks) (c ∷ row) h = (λ t. known-cell c (h.0.not_null t), table-row ks row h.1)

-- none of the columns of such an expression is NULL
pub none-null : (flags : List Bool) (row : Row) (columns : List ℕ) → HasKnown flags row → list_all (flag_at flags) columns ≡ true → any_null row columns ≡ false
none-null flags row [] h e = refl
none-null flags row (at ∷ columns) h e =
    let b = and_parts (flag_at flags at) (list_all (flag_at flags) columns) e in
    ap (λ n. n || any_null row columns) (known-at flags row at h b.0) ∙ none-null flags row columns h b.1

-- ---- what conditions say

said-false : (b : Bool) → is_known_true (truth_of (truth_cell (not3 (truth_of (cell.Bool b))))) ≡ true → b ≡ false
said-false true e = sym e
said-false false e = refl

module _ (ks : Kinds) (row : Row) (w : FitsRow ks row) where
  known-tested : (flags : List Bool) (e : Expr) → kind_of e ks ≡ Some kind.Bool → holds (Not e) row ≡ true → HasKnown flags row → HasKnown (with_tested flags e) row
  known-tested flags (IsNull x) t h n =
      let m = map_given (λ (k : SqlType). kind.Bool) (kind_of x ks) kind.Bool t in
      elim (nulls_on_null x) as (λ b. nulls_on_null x ≡ b → HasKnown (cond b (with_flags flags (columns x)) flags) row) [
        | true ↦ λ b. known-all flags row (columns x) n (sym (null-exactly ks row w x m.0 m.1 (and_parts (is_strict x) (names_column x) b).0) ∙ said-false (is_null (value_of x row)) h)
        | false ↦ λ b. n
      ] refl
  known-tested flags _ t h n = n

  known-conjunct : (flags : List Bool) (c : Expr) → IsTruth ks c → holds c row ≡ true → HasKnown flags row → HasKnown (with_conjunct flags c) row
  known-conjunct flags (Not e) t h n = known-tested flags e (one_is kind.Bool (kind_of e ks) (then_given (is_one kind.Bool (kind_of e ks)) kind.Bool kind.Bool t).0) h n
  known-conjunct flags _ t h n = n

  known-conjuncts : (flags : List Bool) (cs : List Expr) → AreTruths ks cs → list_all (λ c. holds c row) cs ≡ true → HasKnown flags row → HasKnown (fold with_conjunct flags cs) row
  known-conjuncts flags [] t h n = n
  known-conjuncts flags (c ∷ cs) t h n =
      let b = and_parts (holds c row) (list_all (λ c. holds c row) cs) h in
      known-conjuncts (with_conjunct flags c) cs t.1 b.1 (known-conjunct flags c t.0 b.0 n)

  known-condition : (flags : List Bool) (c : Expr) → IsTruth ks c → holds c row ≡ true → HasKnown flags row → HasKnown (with_condition flags c) row
  known-condition flags c t h n = known-conjuncts flags (conjuncts c) (conjuncts-kind ks c t) (sym (holds-conjuncts c row) ∙ h) n

-- ---- rows of plans

-- the kinds below a condition, over which it is a truth
pub checked-given : (c : Expr) (o : Option Kinds) (ks : Kinds) → checked c o ≡ Some ks → (o ≡ Some ks) × IsTruth ks c
checked-given c o ks e =
    let some = sym (checked-is c o (ap is_some e)) ∙ e in
    let a = checked_parts c o (ap is_some e) in
    (some, subst (λ ls. IsTruth ls c) (same_Some a.0 ks (sym a.1 ∙ some)) a.2)

module _ (s : Tables) (db : Database) (m : MeetsSchema s db) where
  pub of_kinds : (p : Plan) (ks : Kinds) → plan_kinds s p ≡ Some ks → (r : Row) → Contains (rows_of s p db) r → HasKinds ks r
  of_kinds p ks e r d = each_from_recursion (HasKinds ks) (rows_of s p db) (rows-fit s db (tables_fit s db m) p ks e) r d

  unset-known : (p : Plan) (ks : Kinds) → plan_kinds s p ≡ Some ks → (r : Row) → Contains (rows_of s p db) r → HasKnown (unset (kinds_or_none s p)) r
  unset-known p ks e r d = subst (λ o. HasKnown (unset (or_no_kinds o)) r) (sym e) (unset-row ks r (of_kinds p ks e r d))

  mutual
    pub sure : (p : Plan) (ks : Kinds) → plan_kinds s p ≡ Some ks → (r : Row) → Contains (rows_of s p db) r → HasKnown (sure_columns s p) r
    sure UnitPlan ks e r d = unset-known UnitPlan ks e r d
    sure (Empty ls) ks e r d = unset-known (Empty ls) ks e r d
    sure (Scan table) ks e r d =
        let t = map_given (λ (t : Table). map (λ c. c.kind) t.columns) (slice_get s table) ks e in
        subst (λ o. HasKnown (map (λ (c : Column). c.not_null) (option_map_or (λ (t : Table). t.columns) o [])) r) (sym t.1)
        (table-row t.0.columns r (row_fits db t.0 (table_rows db table) (table_meets s db m table t.0 t.1) r d))
    sure (Select c p) ks e r d =
        let a = checked-given c (plan_kinds s p) ks e in
        let b = Contains-from_filter (holds c) (rows_of s p db) r d in
        known-condition ks r (fits_row ks r (of_kinds p ks a.0 r b.0)) (sure_columns s p) c a.1 b.1 (sure p ks a.0 r b.0)
    sure (Project es p) ks e r d = unset-known (Project es p) ks e r d
    sure (Join ps c) ks e r d =
        let a = checked-given c (beside_all (kinds_of_each s ps)) ks e in
        let g = beside_is (kinds_of_each s ps) ks a.0 in
        let b = Contains-from_filter (holds c) (product (rows_of_each s ps db)) r d in
        known-condition ks r (fits_row ks r (of_kinds (Join ps c) ks e r d)) (sure_beside s ps) c a.1 b.1 (product-sure ps g.0 g.1 r b.0)
    sure (Left p q c) ks e r d = unset-known (Left p q c) ks e r d
    sure (AntiJoin p q c) ks e r d = unset-known (AntiJoin p q c) ks e r d
    sure (UnionAll ps) ks e r d = unset-known (UnionAll ps) ks e r d
    sure (Distinct p) ks e r d = unset-known (Distinct p) ks e r d

    product-sure : (ps : Plans) (kss : List Kinds) → kinds_of_each s ps ≡ Some kss → (r : Row) → Contains (product (rows_of_each s ps db)) r → HasKnown (sure_beside s ps) r
    product-sure Nil kss e r d = subst (HasKnown []) (Contains-only [] r d) tt
    product-sure (More p ps) kss e r d =
        let a = first_given (plan_kinds s p) (kinds_of_each s ps) kss e in
        let x = Contains-from_flat_map (λ l. map (λ t. l ++ t) (product (rows_of_each s ps db))) (rows_of s p db) r d in
        let y = Contains-from_map (λ t. x.0 ++ t) (product (rows_of_each s ps db)) r x.2 in
        subst (HasKnown (sure_beside s (More p ps))) y.2
        (known-append (sure_columns s p) (sure_beside s ps) x.0 y.0 (sure p a.0 a.1 x.0 x.1) (product-sure ps a.2.0 a.2.1 y.0 y.1))
