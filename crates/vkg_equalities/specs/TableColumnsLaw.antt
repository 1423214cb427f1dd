-- Over a database that meets the schema, in the table columns of a plan stand cells of tables, or NULL.
use Rattle.std.proofs.Common.{◌≡◌, ◌∙◌, ◌+◌, ◌-◌, ◌<◌, ℕ, zero, suc, arith, nat_lt, Bool, true, false, cond, inl, List, [], ◌∷◌, ◌++◌, map, length, length-append, refl, sym, ap, subst}
use Rattle.std.specs.Prelude.{Option, Some, None, replicate, slice_get, unwrap_or, fold, is_some, option_map, if◌then◌else◌}
use Rattle.std.specs.List.{filter, flat_map, AllByRecursion, AllZip}
use Rattle.std.specs.Option.{option_map_or}
use Rattle.std.proofs.lemmas.Bool.{ltb-true, ltb-false}
use Rattle.std.proofs.lemmas.Option.{same_Some, option_and_then_some}
use Rattle.std.proofs.lemmas.List.{length-map}
use Rattle.std.proofs.lemmas.Slice.Zip.{AllZip-long}
use Rattle.vkg_lists.proofs.Bools.{and_parts}
use Rattle.vkg_lists.proofs.Each.{recursion_distinct, recursion_filter, recursion_map_weaken, recursion_weaken}
use Rattle.vkg_lists.proofs.Heads.{slice_get-behind}
use Rattle.vkg_lists.proofs.Members.{recursion_append}
use Rattle.vkg_lists.proofs.Onto.{both_given, first_given}
use Rattle.vkg_lists.specs.Options.{joined}
use Rattle.vkg_cells.specs.declared.cell.Cell.TheVariants as cell
use Rattle.vkg_cells.specs.declared.cell.SqlType.{SqlType}
use Rattle.vkg_schema.specs.declared.table.Column.{Column}
use Rattle.vkg_schema.specs.declared.table.Table.{Table}
use Rattle.vkg_schema.specs.Kinds.{table_kinds}
use Rattle.vkg_schema.specs.Meets.{FitsColumn, IsColumn, IsTable, IsWellFormed, MeetsSchema, TableMeets}
use Rattle.vkg_schema.specs.Rows.{Database, Row, cell_at, rows_of as table_rows}
use Rattle.vkg_expr.specs.Expr.{Expr, Col, Const, exprs}
use Rattle.vkg_expr.specs.Laws.{HasKinds}
use Rattle.vkg_expr.specs.Typing.{kind_of, kinds_of}
use Rattle.vkg_expr.specs.Value.{holds, value_of, values_of}
use Rattle.vkg_match.specs.Laws.{FitsHole}
use Rattle.vkg_match.proofs.Fits.{fits_column}
use Rattle.vkg_plan.specs.Kinds.{Kinds, Tables, beside_all, checked, side_by_side, kinds_of_each, plan_kinds, width}
use Rattle.vkg_plan.specs.Laws.{HaveKinds}
use Rattle.vkg_plan.specs.Plan.{Plan, Plans, Unit as UnitPlan, Empty, Scan, Select, Project, Join, Left, AntiJoin, UnionAll, Distinct, Nil, More}
use Rattle.vkg_plan.specs.Rows.{is_alone, left_pairs, one_row, pairs, product, rows_of, rows_of_each}
use Rattle.vkg_plan.proofs.RowsFit.{beside_is, first_checked-parts, rows-fit}
use Rattle.vkg_rules.specs.Parts.{checked-is}
use Rattle.vkg_shapes.specs.TableRows.{tables_fit}
use Rattle.vkg_shapes.specs.UnionKinds.{AllKinds, given-union}
use Rattle.vkg_equalities.specs.TableColumns.{both_flags, carries, columns_of_each, common_flags, flag_at, flags_beside, table_columns}

-- where the test holds of a column, its cell is NULL or one that some text is read as in a column of its kind
abbrev pub FitsColumns : (ℕ → Bool) → Kinds → Row → Type 0
FitsColumns is_column ks row = (at : ℕ) (k : SqlType) → is_column at ≡ true → slice_get ks at ≡ Some k → FitsHole k (cell_at row at)

-- so it is in each of the rows
abbrev pub CellsFit : (ℕ → Bool) → Kinds → List Row → Type 0
CellsFit is_column ks rows = AllByRecursion (FitsColumns is_column ks) rows

-- ---- rows side by side

-- a test of the first n columns, and one of those behind them
abbrev pub beside : ℕ → (ℕ → Bool) → (ℕ → Bool) → ℕ → Bool
beside n first second at = if nat_lt at n then first at else second (at - n)

slice_get-before : {A : Type 0} (xs ys : List A) (n : ℕ) → n < length xs → slice_get (xs ++ ys) n ≡ slice_get xs n
slice_get-before [] ys n h = absurd (omega (arith, h))
slice_get-before (x ∷ xs) ys zero h = refl
slice_get-before (x ∷ xs) ys (suc n) h = slice_get-before xs ys n (omega (arith, h))

flags-beside : (fs gs : List Bool) (at : ℕ) → flag_at (fs ++ gs) at ≡ beside (length fs) (flag_at fs) (flag_at gs) at
flags-beside fs gs at = elim (nat_lt at (length fs)) as (λ b. nat_lt at (length fs) ≡ b → flag_at (fs ++ gs) at ≡ cond b (flag_at fs at) (flag_at gs (at - length fs))) [
  | true ↦ λ b. ap (λ o. unwrap_or o false) (slice_get-before fs gs at (ltb-true at (length fs) b))
  | false ↦ λ b. ap (λ o. unwrap_or o false) (slice_get-behind fs gs at (at - length fs) (omega (arith, ltb-false at (length fs) b)))
] refl

beside-fits : (t u : ℕ → Bool) (ks ls : Kinds) (l r : Row) → HasKinds ks l → FitsColumns t ks l → FitsColumns u ls r → FitsColumns (beside (length ks) t u) (ks ++ ls) (l ++ r)
beside-fits t u ks ls l r w h g at k =
    let long : length l ≡ length ks = AllZip-long (λ k c. _) ks l w in
    elim (nat_lt at (length ks)) as (λ b. nat_lt at (length ks) ≡ b → cond b (t at) (u (at - length ks)) ≡ true → slice_get (ks ++ ls) at ≡ Some k → FitsHole k (cell_at (l ++ r) at)) [
      | true ↦ λ b e i.
          let below = ltb-true at (length ks) b in
          subst (λ o. FitsHole k (unwrap_or o cell.Null)) (sym (slice_get-before l r at (omega (arith, below, long))))
          (h at k e (sym (slice_get-before ks ls at below) ∙ i))
      | false ↦ λ b e i.
          let above = ltb-false at (length ks) b in
          subst (λ o. FitsHole k (unwrap_or o cell.Null)) (sym (slice_get-behind l r at (at - length ks) (omega (arith, above, long))))
          (g (at - length ks) k e (sym (slice_get-behind ks ls at (at - length ks) (omega (arith, above))) ∙ i))
    ] refl

pub pairs-fits : (t u : ℕ → Bool) (ks ls : Kinds) (xs ys : List Row) → HaveKinds ks xs → CellsFit t ks xs → CellsFit u ls ys → CellsFit (beside (length ks) t u) (ks ++ ls) (pairs xs ys)
pairs-fits t u ks ls [] ys w h g = tt
pairs-fits t u ks ls (x ∷ xs) ys w h g =
    recursion_append (FitsColumns (beside (length ks) t u) (ks ++ ls)) (map (λ r. x ++ r) ys) (pairs xs ys)
    (recursion_map_weaken (FitsColumns u ls) (FitsColumns (beside (length ks) t u) (ks ++ ls)) (λ r. x ++ r) (λ r e. beside-fits t u ks ls x r w.0 h.0 e) ys g)
    (pairs-fits t u ks ls xs ys w.1 h.1 g)

nulls-fit : (n : ℕ) (at : ℕ) → cell_at (replicate n cell.Null) at ≡ cell.Null
nulls-fit zero at = refl
nulls-fit (suc n) zero = refl
nulls-fit (suc n) (suc at) = nulls-fit n at

left-fits : (pass : Row → Bool) (t u : ℕ → Bool) (ks ls : Kinds) (n : ℕ) (xs ys : List Row) → HaveKinds ks xs → CellsFit t ks xs → CellsFit u ls ys
    → CellsFit (beside (length ks) t u) (ks ++ ls) (left_pairs pass n xs ys)
left-fits pass t u ks ls n xs ys w h g = recursion_append (FitsColumns (beside (length ks) t u) (ks ++ ls)) (filter pass (pairs xs ys)) _
    (recursion_filter (FitsColumns (beside (length ks) t u) (ks ++ ls)) pass (pairs xs ys) (pairs-fits t u ks ls xs ys w h g))
    (alone xs w h)
  where
    alone : (zs : List Row) → HaveKinds ks zs → CellsFit t ks zs → CellsFit (beside (length ks) t u) (ks ++ ls) (map (λ l. l ++ replicate n cell.Null) (filter (is_alone pass ys) zs))
    alone zs w h = recursion_map_weaken (λ l. HasKinds ks l × FitsColumns t ks l) (FitsColumns (beside (length ks) t u) (ks ++ ls)) (λ l. l ++ replicate n cell.Null)
        (λ l e. beside-fits t u ks ls l (replicate n cell.Null) e.0 e.1 (λ at k a b. inl (nulls-fit n at)))
        (filter (is_alone pass ys) zs)
        (recursion_filter (λ l. HasKinds ks l × FitsColumns t ks l) (is_alone pass ys) zs (both zs w h))
      where
        both : (zs : List Row) → HaveKinds ks zs → CellsFit t ks zs → AllByRecursion (λ l. HasKinds ks l × FitsColumns t ks l) zs
        both [] w h = tt
        both (z ∷ zs) w h = ((w.0, h.0), both zs w.1 h.1)

-- ---- projected rows

carried : (t : List Bool) (e : Expr) (ks : Kinds) (row : Row) (k : SqlType) → FitsColumns (flag_at t) ks row → carries t e ≡ true → kind_of e ks ≡ Some k → FitsHole k (value_of e row)
carried t (Col at) ks row k h c e = h at k c e
carried t (Const cell.Null l) ks row k h c e = inl refl
carried t _ ks row k h c e = cc

projected-fits : (t : List Bool) (es : List Expr) (ks ls : Kinds) (row : Row) → FitsColumns (flag_at t) ks row → kinds_of (exprs es) ks ≡ Some ls → FitsColumns (flag_at (map (carries t) es)) ls (values_of (exprs es) row)
projected-fits t [] ks ls row h e at k c i = cc
projected-fits t (x ∷ xs) ks ls row h e zero k c i =
    let m = first_given (kind_of x ks) (kinds_of (exprs xs) ks) ls e in
    carried t x ks row k h c (m.1 ∙ ap (λ l. slice_get l 0) m.2.2 ∙ i)
projected-fits t (x ∷ xs) ks ls row h e (suc at) k c i =
    let m = first_given (kind_of x ks) (kinds_of (exprs xs) ks) ls e in
    projected-fits t xs ks m.2.0 row h m.2.1 at k c (ap (λ l. slice_get l (suc at)) m.2.2 ∙ i)

-- ---- rows of tables

table_cell : (columns : List Column) (row : Row) → AllByRecursion IsColumn columns → AllZip FitsColumn columns row → FitsColumns (λ at. true) (map (λ c. c.kind) columns) row
table_cell [] row w h at k c e = cc
table_cell (x ∷ xs) [] w h at k c e = absurd h
table_cell (x ∷ xs) (d ∷ ds) w h zero k c e = subst (λ m. FitsHole m d) (same_Some x.kind k e) (fits_column x d w.0 h.0)
table_cell (x ∷ xs) (d ∷ ds) w h (suc at) k c e = table_cell xs ds w.1 h.1 at k c e

module _ (tables : Tables) (whole : Database) where
  table-cells : (s : Tables) (db : Database) → AllByRecursion (IsTable tables) s → AllZip (TableMeets whole) s db → (table : ℕ) (ks : Kinds) → table_kinds s table ≡ Some ks → CellsFit (λ at. true) ks (table_rows db table)
  table-cells [] db w h i ks e = cc
  table-cells (t ∷ ts) [] w h i ks e = absurd h
  table-cells (t ∷ ts) (rs ∷ rss) w h zero ks e =
      subst (λ m. CellsFit (λ at. true) m rs) (same_Some (map (λ c. c.kind) t.columns) ks e)
      (recursion_weaken (AllZip FitsColumn t.columns) (FitsColumns (λ at. true) (map (λ c. c.kind) t.columns)) rs (λ row. table_cell t.columns row w.0.columns) h.0.cells)
  table-cells (t ∷ ts) (rs ∷ rss) w h (suc i) ks e = table-cells ts rss w.1 h.1 i ks e

-- ---- as many flags as kinds

length-both : (fs gs : List Bool) (n : ℕ) → length fs ≡ n → length gs ≡ n → length (both_flags fs gs) ≡ n
length-both [] gs n h g = h
length-both (a ∷ fs) [] n h g = g
length-both (a ∷ fs) (b ∷ gs) zero h g = absurd (omega (arith, h))
length-both (a ∷ fs) (b ∷ gs) (suc n) h g = ap suc (length-both fs gs n (omega (arith, h)) (omega (arith, g)))

length-common : (n : ℕ) (fs : List Bool) (fss : List (List Bool)) → length fs ≡ n → AllByRecursion (λ fs. length fs ≡ n) fss → length (fold both_flags fs fss) ≡ n
length-common n fs [] h g = h
length-common n fs (gs ∷ fss) h g = length-common n (both_flags fs gs) fss (length-both fs gs n h g.0) g.1

length-projected : (es : List Expr) (ks ls : Kinds) → kinds_of (exprs es) ks ≡ Some ls → length es ≡ length ls
length-projected [] ks ls e = ap length (same_Some [] ls e)
length-projected (x ∷ xs) ks ls e =
    let m = first_given (kind_of x ks) (kinds_of (exprs xs) ks) ls e in
    ap suc (length-projected xs ks m.2.0 m.2.1) ∙ ap length m.2.2

scan-long : (o : Option Table) (ks : Kinds) → option_map (λ t. map (λ c. c.kind) t.columns) o ≡ Some ks → length (map (λ c. true) (option_map_or (λ t. t.columns) o [])) ≡ length ks
scan-long None ks e = cc
scan-long (Some t) ks e = length-map t.columns (λ c. true) ∙ sym (length-map t.columns (λ c. c.kind)) ∙ ap length (same_Some (map (λ c. c.kind) t.columns) ks e)

abbrev AreLong : List Kinds → List (List Bool) → Type 0
AreLong kss fss = AllZip (λ ks fs. length fs ≡ length ks) kss fss

long-beside : (kss : List Kinds) (fss : List (List Bool)) → AreLong kss fss → length (flags_beside fss) ≡ length (side_by_side kss)
long-beside [] [] h = refl
long-beside [] (fs ∷ fss) h = absurd h
long-beside (ks ∷ kss) [] h = absurd h
long-beside (ks ∷ kss) (fs ∷ fss) h = length-append fs (flags_beside fss) ∙ (λ i. h.0 i + long-beside kss fss h.1 i) ∙ sym (length-append ks (side_by_side kss))

kinds-below : (c : Expr) (o : Option Kinds) (ks : Kinds) → checked c o ≡ Some ks → o ≡ Some ks
kinds-below c o ks e = sym (checked-is c o (ap is_some e)) ∙ e

module _ (s : Tables) where
  mutual
    long : (p : Plan) (ks : Kinds) → plan_kinds s p ≡ Some ks → length (table_columns s p) ≡ length ks
    long UnitPlan ks e = ap length (same_Some [] ks e)
    long (Empty ls) ks e = length-map ls (λ k. true) ∙ ap length (same_Some ls ks e)
    long (Scan table) ks e = scan-long (slice_get s table) ks e
    long (Select c p) ks e = long p ks (kinds-below c (plan_kinds s p) ks e)
    long (Project es p) ks e = option_and_then_some (kinds_of (exprs es)) (plan_kinds s p) ks e (λ ls i j. length-map es (carries (table_columns s p)) ∙ length-projected es ls ks j)
    long (Join ps c) ks e =
        let a = beside_is (kinds_of_each s ps) ks (kinds-below c (beside_all (kinds_of_each s ps)) ks e) in
        long-beside a.0 (columns_of_each s ps) (each-long ps a.0 a.1) ∙ ap length a.2
    long (Left p q c) ks e =
        let a = both_given (plan_kinds s p) (plan_kinds s q) ks (kinds-below c (joined (plan_kinds s p) (plan_kinds s q)) ks e) in
        length-append (table_columns s p) (table_columns s q) ∙ (λ i. long p a.0 a.1 i + long q a.2.0 a.2.1 i) ∙ sym (length-append a.0 a.2.0) ∙ ap length a.2.2
    long (AntiJoin p q c) ks e = long p ks (first_checked-parts c (plan_kinds s p) (plan_kinds s q) ks e).first
    long (UnionAll ps) ks e = long-union ps ks e (given-union s ks ps e)
    long (Distinct p) ks e = long p ks e

    long-union : (ps : Plans) (ks : Kinds) → plan_kinds s (UnionAll ps) ≡ Some ks → AllKinds s ks ps → length (common_flags (columns_of_each s ps)) ≡ length ks
    long-union Nil ks e h = cc
    long-union (More p ps) ks e h = length-common (length ks) (table_columns s p) (columns_of_each s ps) (long p ks h.0) (alike-long ps ks h.1)

    alike-long : (ps : Plans) (ks : Kinds) → AllKinds s ks ps → AllByRecursion (λ fs. length fs ≡ length ks) (columns_of_each s ps)
    alike-long Nil ks h = tt
    alike-long (More p ps) ks h = (long p ks h.0, alike-long ps ks h.1)

    each-long : (ps : Plans) (kss : List Kinds) → kinds_of_each s ps ≡ Some kss → AreLong kss (columns_of_each s ps)
    each-long Nil kss e = subst (λ l. AreLong l []) (same_Some [] kss e) tt
    each-long (More p ps) kss e =
        let a = first_given (plan_kinds s p) (kinds_of_each s ps) kss e in
        subst (λ l. AreLong l (columns_of_each s (More p ps))) a.2.2 (long p a.0 a.1, each-long ps a.2.0 a.2.1)

-- ---- what is common to all

both-at : (fs gs : List Bool) (at : ℕ) → flag_at (both_flags fs gs) at ≡ true → (flag_at fs at ≡ true) × (flag_at gs at ≡ true)
both-at [] gs at h = cc
both-at (a ∷ fs) [] at h = cc
both-at (a ∷ fs) (b ∷ gs) zero h = and_parts a b h
both-at (a ∷ fs) (b ∷ gs) (suc at) h = both-at fs gs at h

fold-at : (fs : List Bool) (fss : List (List Bool)) (at : ℕ) → flag_at (fold both_flags fs fss) at ≡ true → (flag_at fs at ≡ true) × AllByRecursion (λ fs. flag_at fs at ≡ true) fss
fold-at fs [] at h = (h, tt)
fold-at fs (gs ∷ fss) at h =
    let r = fold-at (both_flags fs gs) fss at h in
    let b = both-at fs gs at r.0 in
    (b.0, (b.1, r.1))

common-at : (fss : List (List Bool)) (at : ℕ) → flag_at (common_flags fss) at ≡ true → AllByRecursion (λ fs. flag_at fs at ≡ true) fss
common-at [] at h = tt
common-at (fs ∷ fss) at h = fold-at fs fss at h

-- ---- rows of plans

module _ (s : Tables) (db : Database) (form : IsWellFormed s) (m : MeetsSchema s db) where
  -- the flags of two plans side by side
  side : (fs gs : List Bool) (ks : Kinds) (all : Kinds) (rows : List Row) → length fs ≡ length ks → CellsFit (beside (length ks) (flag_at fs) (flag_at gs)) all rows → CellsFit (flag_at (fs ++ gs)) all rows
  side fs gs ks all rows l h = recursion_weaken (FitsColumns (beside (length ks) (flag_at fs) (flag_at gs)) all) (FitsColumns (flag_at (fs ++ gs)) all) rows
      (λ row f at k c i. f at k (ap (λ n. beside n (flag_at fs) (flag_at gs) at) (sym l) ∙ sym (flags-beside fs gs at) ∙ c) i) h

  -- each row of a plan with each of some rows
  pub pair-cells : (p : Plan) (fs : List Bool) (ks ls : Kinds) (rs : List Row) → plan_kinds s p ≡ Some ks → CellsFit (flag_at (table_columns s p)) ks (rows_of s p db) → CellsFit (flag_at fs) ls rs
      → CellsFit (flag_at (table_columns s p ++ fs)) (ks ++ ls) (pairs (rows_of s p db) rs)
  pair-cells p fs ks ls rs e h g = side (table_columns s p) fs ks (ks ++ ls) (pairs (rows_of s p db) rs) (long s p ks e)
      (pairs-fits (flag_at (table_columns s p)) (flag_at fs) ks ls (rows_of s p db) rs (rows-fit s db (tables_fit s db m) p ks e) h g)

  mutual
    -- in each table column of a well-typed plan stands NULL, or a cell that some text is read as
    pub cells : (p : Plan) (ks : Kinds) → plan_kinds s p ≡ Some ks → CellsFit (flag_at (table_columns s p)) ks (rows_of s p db)
    cells UnitPlan ks e = (λ at k c i. cc, tt)
    cells (Empty ls) ks e = tt
    cells (Scan table) ks e = recursion_weaken (FitsColumns (λ at. true) ks) (FitsColumns (flag_at (table_columns s (Scan table))) ks) (table_rows db table) (λ row h at k c i. h at k refl i) (table-cells s db s db form m table ks e)
    cells (Select c p) ks e = recursion_filter (FitsColumns (flag_at (table_columns s p)) ks) (holds c) (rows_of s p db) (cells p ks (kinds-below c (plan_kinds s p) ks e))
    cells (Project es p) ks e = option_and_then_some (kinds_of (exprs es)) (plan_kinds s p) ks e (λ ls i j.
        recursion_map_weaken (FitsColumns (flag_at (table_columns s p)) ls) (FitsColumns (flag_at (table_columns s (Project es p))) ks) (values_of (exprs es))
        (λ row h. projected-fits (table_columns s p) es ls ks row h j) (rows_of s p db) (cells p ls i))
    cells (Join ps c) ks e =
        let a = beside_is (kinds_of_each s ps) ks (kinds-below c (beside_all (kinds_of_each s ps)) ks e) in
        recursion_filter (FitsColumns (flag_at (flags_beside (columns_of_each s ps))) ks) (holds c) (product (rows_of_each s ps db))
        (subst (λ z. CellsFit (flag_at (flags_beside (columns_of_each s ps))) z (product (rows_of_each s ps db))) a.2 (product-cells ps a.0 a.1))
    cells (Left p q c) ks e =
        let a = both_given (plan_kinds s p) (plan_kinds s q) ks (kinds-below c (joined (plan_kinds s p) (plan_kinds s q)) ks e) in
        subst (λ z. CellsFit (flag_at (table_columns s (Left p q c))) z (rows_of s (Left p q c) db)) a.2.2
        (side (table_columns s p) (table_columns s q) a.0 (a.0 ++ a.2.0) (rows_of s (Left p q c) db) (long s p a.0 a.1)
        (left-fits (holds c) (flag_at (table_columns s p)) (flag_at (table_columns s q)) a.0 a.2.0 (width s q) (rows_of s p db) (rows_of s q db)
        (rows-fit s db (tables_fit s db m) p a.0 a.1) (cells p a.0 a.1) (cells q a.2.0 a.2.1)))
    cells (AntiJoin p q c) ks e = recursion_filter (FitsColumns (flag_at (table_columns s p)) ks) (is_alone (holds c) (rows_of s q db)) (rows_of s p db) (cells p ks (first_checked-parts c (plan_kinds s p) (plan_kinds s q) ks e).first)
    cells (UnionAll ps) ks e = union-cells (flag_at (common_flags (columns_of_each s ps))) ks ps (given-union s ks ps e) (λ at h. common-at (columns_of_each s ps) at h)
    cells (Distinct p) ks e = recursion_distinct (FitsColumns (flag_at (table_columns s p)) ks) one_row (rows_of s p db) (cells p ks e)

    pub product-cells : (ps : Plans) (kss : List Kinds) → kinds_of_each s ps ≡ Some kss → CellsFit (flag_at (flags_beside (columns_of_each s ps))) (side_by_side kss) (product (rows_of_each s ps db))
    product-cells Nil kss e = (λ at k c i. cc, tt)
    product-cells (More p ps) kss e =
        let a = first_given (plan_kinds s p) (kinds_of_each s ps) kss e in
        subst (λ z. CellsFit (flag_at (flags_beside (columns_of_each s (More p ps)))) (side_by_side z) (product (rows_of_each s (More p ps) db))) a.2.2
        (pair-cells p (flags_beside (columns_of_each s ps)) a.0 (side_by_side a.2.0) (product (rows_of_each s ps db)) a.1 (cells p a.0 a.1) (product-cells ps a.2.0 a.2.1))

    union-cells : (t : ℕ → Bool) (ks : Kinds) (ps : Plans) → AllKinds s ks ps → ((at : ℕ) → t at ≡ true → AllByRecursion (λ fs. flag_at fs at ≡ true) (columns_of_each s ps)) →
        CellsFit t ks (flat_map (λ rows. rows) (rows_of_each s ps db))
    union-cells t ks Nil h g = tt
    union-cells t ks (More p ps) h g =
        recursion_append (FitsColumns t ks) (rows_of s p db) (flat_map (λ rows. rows) (rows_of_each s ps db))
        (recursion_weaken (FitsColumns (flag_at (table_columns s p)) ks) (FitsColumns t ks) (rows_of s p db) (λ row f at k c i. f at k (g at c).0 i) (cells p ks h.0))
        (union-cells t ks ps h.1 (λ at c. (g at c).1))
