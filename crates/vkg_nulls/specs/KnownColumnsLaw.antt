-- Over a database that meets the schema no such column is NULL in any row of the plan.
use Rattle.std.proofs.Common.{◌≡◌, ◌≢◌, ◌∙◌, ◌+◌, ℕ, zero, suc, arith, Bool, false, List, [], ◌∷◌, ◌++◌, map, length, length-append, refl, sym, ap}
use Rattle.std.specs.Prelude.{IsTrue, Option, Some, None, is_some, option_map, slice_get}
use Rattle.std.specs.List.{list_all, AllByRecursion, AllZip}
use Rattle.std.specs.Cmp.Lexicographic.{pointwise}
use Rattle.std.specs.Option.{option_map_or}
use Rattle.std.proofs.lemmas.Option.{same_Some, cond_some, option_and_then_some}
use Rattle.std.proofs.lemmas.List.{length-map}
use Rattle.vkg_lists.proofs.Each.{recursion_filter, recursion_map_weaken, recursion_weaken}
use Rattle.vkg_lists.proofs.Members.{recursion_append}
use Rattle.vkg_lists.proofs.Onto.{both_given, first_given}
use Rattle.vkg_lists.specs.Options.{joined, with_first}
use Rattle.vkg_cells.specs.declared.cell.Cell.{Cell}
use Rattle.vkg_cells.specs.declared.cell.Cell.TheVariants as cell
use Rattle.vkg_schema.specs.declared.table.Column.{Column}
use Rattle.vkg_schema.specs.declared.table.Table.{Table}
use Rattle.vkg_schema.specs.Kinds.{columns_of}
use Rattle.vkg_schema.specs.Meets.{FitsColumn, MeetsSchema, TableMeets}
use Rattle.vkg_schema.specs.Rows.{Database, Row, is_null, rows_of as table_rows}
use Rattle.vkg_expr.specs.Expr.{Expr, exprs}
use Rattle.vkg_expr.specs.Laws.{HasKinds}
use Rattle.vkg_expr.specs.Typing.{kind_of, kinds_of, same_kind}
use Rattle.vkg_expr.specs.Value.{holds}
use Rattle.vkg_plan.specs.Kinds.{Kinds, Tables, alike, beside_all, checked, side_by_side, kinds_of_each, plan_kinds}
use Rattle.vkg_plan.specs.Laws.{HaveKinds}
use Rattle.vkg_plan.specs.Plan.{Plan, Plans, Unit as UnitPlan, Empty, Scan, Select, Project, Join, Left, AntiJoin, UnionAll, Distinct, Nil, More}
use Rattle.vkg_plan.specs.Rows.{pairs, product, rows_of, rows_of_each}
use Rattle.vkg_plan.proofs.RowsFit.{beside_is, first_checked-parts, rows-fit}
use Rattle.vkg_rules.specs.Parts.{checked-is}
use Rattle.vkg_shapes.specs.TableRows.{tables_fit}
use Rattle.vkg_conditions.specs.NodesLaw.{own_kinds, own_rows}
use Rattle.vkg_nulls.specs.KnownColumns.{known_beside, known_columns, own_known, unsaid}

-- a cell for each flag, which is not NULL where the flag says so
abbrev pub HasKnown : List Bool → Row → Type 0
HasKnown flags row = AllZip (λ flag c. IsTrue flag → is_null c ≡ false) flags row

abbrev pub HaveKnown : List Bool → List Row → Type 0
HaveKnown flags rows = AllByRecursion (HasKnown flags) rows

-- ---- rows side by side

known-append : (fs gs : List Bool) (l r : Row) → HasKnown fs l → HasKnown gs r → HasKnown (fs ++ gs) (l ++ r)
known-append [] gs [] r h k = k
known-append [] gs (c ∷ l) r h k = absurd h
known-append (f ∷ fs) gs [] r h k = absurd h
known-append (f ∷ fs) gs (c ∷ l) r h k = (h.0, known-append fs gs l r h.1 k)

pairs-known : (fs gs : List Bool) (xs ys : List Row) → HaveKnown fs xs → HaveKnown gs ys → HaveKnown (fs ++ gs) (pairs xs ys)
pairs-known fs gs [] ys h k = tt
pairs-known fs gs (x ∷ xs) ys h k =
    recursion_append (HasKnown (fs ++ gs)) (map (λ r. x ++ r) ys) (pairs xs ys)
    (recursion_map_weaken (HasKnown gs) (HasKnown (fs ++ gs)) (λ r. x ++ r) (λ r e. known-append fs gs x r h.0 e) ys k)
    (pairs-known fs gs xs ys h.1 k)

-- ---- where nothing is said

unsaid-row : {A : Type 0} (xs : List A) (ks : Kinds) (row : Row) → length xs ≡ length ks → HasKinds ks row → HasKnown (unsaid xs) row
unsaid-row [] [] [] e h = tt
unsaid-row [] [] (c ∷ row) e h = absurd h
unsaid-row [] (k ∷ ks) row e h = absurd (omega (arith, e))
unsaid-row (x ∷ xs) [] row e h = absurd (omega (arith, e))
unsaid-row (x ∷ xs) (k ∷ ks) [] e h = absurd h
unsaid-row (x ∷ xs) (k ∷ ks) (c ∷ row) e h = (λ t. cc, unsaid-row xs ks row (omega (arith, e)) h.1)

unsaid-rows : {A : Type 0} (xs : List A) (ks : Kinds) (rows : List Row) → length xs ≡ length ks → HaveKinds ks rows → HaveKnown (unsaid xs) rows
unsaid-rows xs ks rows e h = recursion_weaken (HasKinds ks) (HasKnown (unsaid xs)) rows (λ row k. unsaid-row xs ks row e k) h

-- ---- rows of tables

not_null_cell : (c : Cell) → c ≢ cell.Null → is_null c ≡ false
not_null_cell cell.Null n = absurd (n refl)
not_null_cell _ n = refl

table-row : (columns : List Column) (row : Row) → AllZip FitsColumn columns row → HasKnown (map (λ c. c.not_null) columns) row
table-row [] [] h = tt
table-row [] (c ∷ row) h = absurd h
table-row (k ∷ ks) [] h = absurd h
table-row (k ∷ ks) (c ∷ row) h = (λ t. not_null_cell c (h.0.not_null t), table-row ks row h.1)

scan-known : (whole : Database) (s : Tables) (db : Database) → AllZip (TableMeets whole) s db → (table : ℕ) → HaveKnown (map (λ c. c.not_null) (columns_of s table)) (table_rows db table)
scan-known whole [] [] h i = tt
scan-known whole [] (rs ∷ db) h i = absurd h
scan-known whole (t ∷ ts) [] h i = absurd h
scan-known whole (t ∷ ts) (rs ∷ db) h zero =
    recursion_weaken (AllZip FitsColumn t.columns) (HasKnown (map (λ c. c.not_null) t.columns)) rs (λ row. table-row t.columns row) h.0.cells
scan-known whole (t ∷ ts) (rs ∷ db) h (suc i) = scan-known whole ts db h.1 i

-- ---- as many flags as kinds

kinds-below : (c : Expr) (o : Option Kinds) (ks : Kinds) → checked c o ≡ Some ks → o ≡ Some ks
kinds-below c o ks e = sym (checked-is c o (ap is_some e)) ∙ e

first-alike : (o : Option Kinds) (p : Option (List Kinds)) (ks : Kinds) → alike (with_first o p) ≡ Some ks → o ≡ Some ks
first-alike None p ks e = cc
first-alike (Some ls) None ks e = cc
first-alike (Some ls) (Some kss) ks e = ap Some (cond_some (list_all (pointwise same_kind ls) kss) ls ks e).1

length-projected : (es : List Expr) (ks ls : Kinds) → kinds_of (exprs es) ks ≡ Some ls → length es ≡ length ls
length-projected [] ks ls e = ap length (same_Some [] ls e)
length-projected (x ∷ xs) ks ls e =
    let m = first_given (kind_of x ks) (kinds_of (exprs xs) ks) ls e in
    ap suc (length-projected xs ks m.2.0 m.2.1) ∙ ap length m.2.2

scan-long : (o : Option Table) (ks : Kinds) → option_map (λ t. map (λ c. c.kind) t.columns) o ≡ Some ks → length (map (λ c. c.not_null) (option_map_or (λ t. t.columns) o [])) ≡ length ks
scan-long None ks e = cc
scan-long (Some t) ks e = length-map t.columns (λ c. c.not_null) ∙ sym (length-map t.columns (λ c. c.kind)) ∙ ap length (same_Some (map (λ c. c.kind) t.columns) ks e)

both-long : (fs gs : List Bool) (ks ls : Kinds) → length fs ≡ length ks → length gs ≡ length ls → length (fs ++ gs) ≡ length (ks ++ ls)
both-long fs gs ks ls e f = length-append fs gs ∙ (λ i. e i + f i) ∙ sym (length-append ks ls)

module _ (s : Tables) where
  mutual
    long : (p : Plan) (ks : Kinds) → plan_kinds s p ≡ Some ks → length (known_columns s p) ≡ length ks
    long UnitPlan ks e = ap length (same_Some [] ks e)
    long (Empty ls) ks e = length-map ls (λ k. false) ∙ ap length (same_Some ls ks e)
    long (Scan table) ks e = scan-long (slice_get s table) ks e
    long (Select c p) ks e = long p ks (kinds-below c (plan_kinds s p) ks e)
    long (Project es p) ks e = option_and_then_some (kinds_of (exprs es)) (plan_kinds s p) ks e (λ ls i j. length-map es (λ x. false) ∙ length-projected es ls ks j)
    long (Join ps c) ks e =
        let a = beside_is (kinds_of_each s ps) ks (kinds-below c (beside_all (kinds_of_each s ps)) ks e) in
        long-beside ps a.0 a.1 ∙ ap length a.2
    long (Left p q c) ks e =
        let a = both_given (plan_kinds s p) (plan_kinds s q) ks (kinds-below c (joined (plan_kinds s p) (plan_kinds s q)) ks e) in
        length-map (known_columns s p ++ known_columns s q) (λ x. false)
        ∙ both-long (known_columns s p) (known_columns s q) a.0 a.2.0 (long p a.0 a.1) (long q a.2.0 a.2.1) ∙ ap length a.2.2
    long (AntiJoin p q c) ks e = length-map (known_columns s p) (λ x. false) ∙ long p ks (first_checked-parts c (plan_kinds s p) (plan_kinds s q) ks e).first
    long (UnionAll Nil) ks e = cc
    long (UnionAll (More p ps)) ks e = length-map (known_columns s p) (λ x. false) ∙ long p ks (first-alike (plan_kinds s p) (kinds_of_each s ps) ks e)
    long (Distinct p) ks e = length-map (known_columns s p) (λ x. false) ∙ long p ks e

    long-beside : (ps : Plans) (kss : List Kinds) → kinds_of_each s ps ≡ Some kss → length (known_beside s ps) ≡ length (side_by_side kss)
    long-beside Nil kss e = ap (λ l. length (side_by_side l)) (same_Some [] kss e)
    long-beside (More p ps) kss e =
        let a = first_given (plan_kinds s p) (kinds_of_each s ps) kss e in
        both-long (known_columns s p) (known_beside s ps) a.0 (side_by_side a.2.0) (long p a.0 a.1) (long-beside ps a.2.0 a.2.1) ∙ ap (λ l. length (side_by_side l)) a.2.2

-- ---- rows of plans

module _ (s : Tables) (db : Database) (m : MeetsSchema s db) where
  -- nothing is said of the columns
  open-rows : {A : Type 0} (p : Plan) (xs : List A) (ks : Kinds) → length (unsaid xs) ≡ length ks → plan_kinds s p ≡ Some ks → HaveKnown (unsaid xs) (rows_of s p db)
  open-rows p xs ks l e = unsaid-rows xs ks (rows_of s p db) (sym (length-map xs (λ x. false)) ∙ l) (rows-fit s db (tables_fit s db m) p ks e)

  mutual
    known : (p : Plan) (ks : Kinds) → plan_kinds s p ≡ Some ks → HaveKnown (known_columns s p) (rows_of s p db)
    known UnitPlan ks e = (tt, tt)
    known (Empty ls) ks e = tt
    known (Scan table) ks e = scan-known db s db m table
    known (Select c p) ks e = recursion_filter (HasKnown (known_columns s p)) (holds c) (rows_of s p db) (known p ks (kinds-below c (plan_kinds s p) ks e))
    known (Project es p) ks e = open-rows (Project es p) es ks (long s (Project es p) ks e) e
    known (Join ps c) ks e =
        let a = beside_is (kinds_of_each s ps) ks (kinds-below c (beside_all (kinds_of_each s ps)) ks e) in
        recursion_filter (HasKnown (known_beside s ps)) (holds c) (product (rows_of_each s ps db)) (product-known ps a.0 a.1)
    known (Left p q c) ks e = open-rows (Left p q c) (known_columns s p ++ known_columns s q) ks (long s (Left p q c) ks e) e
    known (AntiJoin p q c) ks e = open-rows (AntiJoin p q c) (known_columns s p) ks (long s (AntiJoin p q c) ks e) e
    known (UnionAll Nil) ks e = cc
    known (UnionAll (More p ps)) ks e = open-rows (UnionAll (More p ps)) (known_columns s p) ks (long s (UnionAll (More p ps)) ks e) e
    known (Distinct p) ks e = open-rows (Distinct p) (known_columns s p) ks (long s (Distinct p) ks e) e

    product-known : (ps : Plans) (kss : List Kinds) → kinds_of_each s ps ≡ Some kss → HaveKnown (known_beside s ps) (product (rows_of_each s ps db))
    product-known Nil kss e = (tt, tt)
    product-known (More p ps) kss e =
        let a = first_given (plan_kinds s p) (kinds_of_each s ps) kss e in
        pairs-known (known_columns s p) (known_beside s ps) (rows_of s p db) (product (rows_of_each s ps db)) (known p a.0 a.1) (product-known ps a.2.0 a.2.1)

  -- so it is where a plan's own expressions are taken
  pub own-known : (p : Plan) (ks : Kinds) → own_kinds s p ≡ Some ks → HaveKnown (own_known s p) (own_rows s p db)
  own-known (Select c p) ks e = known p ks e
  own-known (Project es p) ks e = known p ks e
  own-known (Join ps c) ks e = let a = beside_is (kinds_of_each s ps) ks e in product-known ps a.0 a.1
  own-known (Left p q c) ks e =
      let a = both_given (plan_kinds s p) (plan_kinds s q) ks e in
      pairs-known (known_columns s p) (known_columns s q) (rows_of s p db) (rows_of s q db) (known p a.0 a.1) (known q a.2.0 a.2.1)
  own-known (AntiJoin p q c) ks e =
      let a = both_given (plan_kinds s p) (plan_kinds s q) ks e in
      pairs-known (known_columns s p) (known_columns s q) (rows_of s p db) (rows_of s q db) (known p a.0 a.1) (known q a.2.0 a.2.1)
  own-known _ ks e = cc
