-- Over a database that meets the schema no such column is NULL in any row of the plan.
use Rattle.std.proofs.Common.{◌≡◌, ◌∙◌, ◌+◌, ℕ, zero, suc, arith, Bool, true, false, cond, inl, inr, List, [], ◌∷◌, ◌++◌, length, length-append, map, refl, sym, ap, subst}
use Rattle.std.specs.Prelude.{Option, Some, None, fold, option_map, replicate, slice_get}
use Rattle.std.specs.List.{Contains, filter, flat_map, list_all}
use Rattle.std.specs.Option.{option_map_or}
use Rattle.std.proofs.lemmas.List.{length-map, length-replicate, length-set}
use Rattle.std.proofs.lemmas.List.Elements.{Contains-append_cases}
use Rattle.std.proofs.lemmas.Option.{option_and_then_some, same_Some}
use Rattle.std.proofs.lemmas.Slice.Zip.{AllZip-long}
use Rattle.vkg_lists.proofs.Bools.{and_parts, neither}
use Rattle.vkg_lists.proofs.Distinct.{Contains-from_distinct}
use Rattle.vkg_lists.proofs.Members.{Contains-from_filter, Contains-from_flat_map, Contains-from_map, Contains-none, Contains-only, recursion_from_each}
use Rattle.vkg_lists.proofs.Onto.{both_given, first_given, map_given}
use Rattle.vkg_lists.proofs.Results.{then_given}
use Rattle.vkg_lists.specs.Options.{joined}
use Rattle.vkg_cells.specs.declared.cell.Cell.{Cell}
use Rattle.vkg_cells.specs.declared.cell.Cell.TheVariants as cell
use Rattle.vkg_cells.specs.declared.cell.SqlType.{SqlType}
use Rattle.vkg_cells.specs.declared.cell.SqlType.TheVariants as kind
use Rattle.vkg_cells.specs.Order.{same}
use Rattle.vkg_schema.specs.declared.table.Table.{Table}
use Rattle.vkg_schema.specs.Meets.{MeetsSchema}
use Rattle.vkg_schema.specs.Rows.{Database, Row, cell_at, is_known_true, is_null}
use Rattle.vkg_values.specs.Logic.{not3}
use Rattle.vkg_expr.specs.Expr.{Expr, Same, IsNull, Not, exprs}
use Rattle.vkg_expr.specs.Laws.{FitsRow}
use Rattle.vkg_expr.specs.Logic.{conjuncts}
use Rattle.vkg_expr.specs.Strict.{columns, is_strict, names_column, nulls_on_null}
use Rattle.vkg_expr.specs.Typing.{is_one, kind_of, kinds_of}
use Rattle.vkg_expr.specs.Value.{holds, truth_cell, truth_of, value_of, values_of}
use Rattle.vkg_expr.proofs.TypedParts.{equality_given, fits_row, one_is}
use Rattle.vkg_columns.proofs.Conjuncts.{AreTruths, IsTruth, conjuncts-kind, holds-conjuncts}
use Rattle.vkg_plan.specs.Kinds.{Kinds, Tables, beside_all, kinds_of_each, plan_kinds, side_by_side, width}
use Rattle.vkg_plan.specs.Plan.{Plan, Plans, Unit as UnitPlan, Empty, Scan, Select, Project, Join, Left, AntiJoin, UnionAll, Distinct, Nil, More}
use Rattle.vkg_plan.specs.Rows.{is_alone, one_row, pairs, product, rows_of, rows_of_each}
use Rattle.vkg_plan.proofs.RowsFit.{beside_is, first_checked-parts}
use Rattle.vkg_shapes.specs.UnionKinds.{AllKinds, given-union}
use Rattle.vkg_conditions.specs.NodesLaw.{own_kinds, own_rows}
use Rattle.vkg_nulls.specs.KnownColumnsLaw.{HasKnown, HaveKnown}
use Rattle.vkg_nulls.specs.NullExactly.{any_null, null-exactly}
use Rattle.vkg_equalities.specs.TableColumns.{flags_beside}
use Rattle.vkg_unique.specs.Sure.{is_sure, unset, with_flag, with_flags, with_tested}
use Rattle.vkg_unique.specs.SureLaw.{checked-given, known-append, none-null, of_kinds, sure}
use Rattle.vkg_sure.specs.NeverNull.{both, common, is_known, never_null, never_null_each, own_never_null, with_all_told, with_told}

-- ---- as many flags as columns

long-flags : (flags : List Bool) (columns : List ℕ) → length (with_flags flags columns) ≡ length flags
long-flags flags [] = refl
long-flags flags (at ∷ columns) = long-flags (with_flag flags at) columns ∙ length-set flags at true

long-tested : (flags : List Bool) (e : Expr) → length (with_tested flags e) ≡ length flags
long-tested flags (IsNull e) = elim (nulls_on_null e) as (λ b. length (cond b (with_flags flags (columns e)) flags) ≡ length flags) [
  | true ↦ long-flags flags (columns e)
  | false ↦ refl
]
long-tested flags _ = refl

long-told : (flags : List Bool) (c : Expr) → length (with_told flags c) ≡ length flags
long-told flags (Same a b) = long-tested (with_tested flags (IsNull a)) (IsNull b) ∙ long-tested flags (IsNull a)
long-told flags (Not e) = long-tested flags e
long-told flags _ = refl

long-all : (flags : List Bool) (cs : List Expr) → length (fold with_told flags cs) ≡ length flags
long-all flags [] = refl
long-all flags (c ∷ cs) = long-all (with_told flags c) cs ∙ long-told flags c

long-both : (fs gs : List Bool) → length (both fs gs) ≡ length fs
long-both [] gs = refl
long-both (f ∷ fs) [] = ap suc (long-both fs [])
long-both (f ∷ fs) (g ∷ gs) = ap suc (long-both fs gs)

long-common : (fs : List Bool) (fss : List (List Bool)) → length (fold both fs fss) ≡ length fs
long-common fs [] = refl
long-common fs (gs ∷ fss) = long-common (both fs gs) fss ∙ long-both fs gs

long-projected : (es : List Expr) (ks ls : Kinds) → kinds_of (exprs es) ks ≡ Some ls → length es ≡ length ls
long-projected [] ks ls e = ap length (same_Some [] ls e)
long-projected (x ∷ xs) ks ls e =
    let m = first_given (kind_of x ks) (kinds_of (exprs xs) ks) ls e in
    ap suc (long-projected xs ks m.2.0 m.2.1) ∙ ap length m.2.2

long-scan : (o : Option Table) (ks : Kinds) → option_map (λ t. map (λ c. c.kind) t.columns) o ≡ Some ks → length (map (λ c. c.not_null) (option_map_or (λ t. t.columns) o [])) ≡ length ks
long-scan None ks e = cc
long-scan (Some t) ks e = length-map t.columns (λ c. c.not_null) ∙ sym (length-map t.columns (λ c. c.kind)) ∙ ap length (same_Some (map (λ c. c.kind) t.columns) ks e)

module _ (s : Tables) where
  mutual
    long : (p : Plan) (ks : Kinds) → plan_kinds s p ≡ Some ks → length (never_null s p) ≡ length ks
    long UnitPlan ks e = ap length (same_Some [] ks e)
    long (Empty ls) ks e = length-map ls (λ k. true) ∙ ap length (same_Some ls ks e)
    long (Scan table) ks e = long-scan (slice_get s table) ks e
    long (Select c p) ks e = long-all (never_null s p) (conjuncts c) ∙ long p ks (checked-given c (plan_kinds s p) ks e).0
    long (Project es p) ks e = option_and_then_some (kinds_of (exprs es)) (plan_kinds s p) ks e (λ ls i j. length-map es (is_known (never_null s p)) ∙ long-projected es ls ks j)
    long (Join ps c) ks e =
        let a = beside_is (kinds_of_each s ps) ks (checked-given c (beside_all (kinds_of_each s ps)) ks e).0 in
        long-all (flags_beside (never_null_each s ps)) (conjuncts c) ∙ long-beside ps a.0 a.1 ∙ ap length a.2
    long (Left p q c) ks e =
        let a = both_given (plan_kinds s p) (plan_kinds s q) ks (checked-given c (joined (plan_kinds s p) (plan_kinds s q)) ks e).0 in
        length-append (never_null s p) (unset (never_null s q))
        ∙ (λ i. long p a.0 a.1 i + (length-map (never_null s q) (λ f. false) ∙ long q a.2.0 a.2.1) i)
        ∙ sym (length-append a.0 a.2.0) ∙ ap length a.2.2
    long (AntiJoin p q c) ks e = long p ks (first_checked-parts c (plan_kinds s p) (plan_kinds s q) ks e).first
    long (UnionAll ps) ks e = long-union ps ks e (given-union s ks ps e)
    long (Distinct p) ks e = long p ks e

    long-union : (ps : Plans) (ks : Kinds) → plan_kinds s (UnionAll ps) ≡ Some ks → AllKinds s ks ps → length (common (never_null_each s ps)) ≡ length ks
    long-union Nil ks e h = cc
    long-union (More p ps) ks e h = long-common (never_null s p) (never_null_each s ps) ∙ long p ks h.0

    long-beside : (ps : Plans) (kss : List Kinds) → kinds_of_each s ps ≡ Some kss → length (flags_beside (never_null_each s ps)) ≡ length (side_by_side kss)
    long-beside Nil kss e = ap (λ l. length (side_by_side l)) (same_Some [] kss e)
    long-beside (More p ps) kss e =
        let a = first_given (plan_kinds s p) (kinds_of_each s ps) kss e in
        length-append (never_null s p) (flags_beside (never_null_each s ps))
        ∙ (λ i. long p a.0 a.1 i + long-beside ps a.2.0 a.2.1 i)
        ∙ sym (length-append a.0 (side_by_side a.2.0)) ∙ ap (λ l. length (side_by_side l)) a.2.2

-- ---- flags of columns that are not NULL

known-set : (flags : List Bool) (row : Row) (at : ℕ) → HasKnown flags row → is_null (cell_at row at) ≡ false → HasKnown (with_flag flags at) row
known-set [] row at h e = h
known-set (f ∷ fs) [] at h e = absurd h
known-set (f ∷ fs) (c ∷ row) zero h e = (λ t. e, h.1)
known-set (f ∷ fs) (c ∷ row) (suc at) h e = (h.0, known-set fs row at h.1 e)

known-all : (flags : List Bool) (row : Row) (columns : List ℕ) → HasKnown flags row → any_null row columns ≡ false → HasKnown (with_flags flags columns) row
known-all flags row [] h e = h
known-all flags row (at ∷ columns) h e =
    let b = neither (is_null (cell_at row at)) (any_null row columns) e in
    known-all (with_flag flags at) row columns (known-set flags row at h b.0) b.1

unset-row : {A : Type 0} (xs : List A) (row : Row) → length row ≡ length xs → HasKnown (unset xs) row
unset-row [] [] e = tt
unset-row [] (c ∷ row) e = absurd (omega (arith, e))
unset-row (x ∷ xs) [] e = absurd (omega (arith, e))
unset-row (x ∷ xs) (c ∷ row) e = (λ t. cc, unset-row xs row (omega (arith, e)))

-- what is so of the one list, or of the other, is so of what is common to them
both-first : (fs gs : List Bool) (row : Row) → HasKnown fs row → HasKnown (both fs gs) row
both-first [] gs row h = h
both-first (a ∷ fs) gs [] h = absurd h
both-first (a ∷ fs) [] (c ∷ row) h = (λ t. cc, both-first fs [] row h.1)
both-first (a ∷ fs) (b ∷ gs) (c ∷ row) h = (λ t. h.0 (and_parts a b t).0, both-first fs gs row h.1)

both-second : (fs gs : List Bool) (row : Row) → HasKnown gs row → length fs ≡ length row → HasKnown (both fs gs) row
both-second [] gs [] h l = tt
both-second [] gs (c ∷ row) h l = absurd (omega (arith, l))
both-second (a ∷ fs) gs [] h l = absurd (omega (arith, l))
both-second (a ∷ fs) [] (c ∷ row) h l = absurd h
both-second (a ∷ fs) (b ∷ gs) (c ∷ row) h l = (λ t. h.0 (and_parts a b t).1, both-second fs gs row h.1 (omega (arith, l)))

common-first : (fs : List Bool) (fss : List (List Bool)) (row : Row) → HasKnown fs row → HasKnown (fold both fs fss) row
common-first fs [] row h = h
common-first fs (gs ∷ fss) row h = common-first (both fs gs) fss row (both-first fs gs row h)

-- ---- what conditions say

said-false : (b : Bool) → is_known_true (truth_of (truth_cell (not3 (truth_of (cell.Bool b))))) ≡ true → b ≡ false
said-false true e = sym e
said-false false e = refl

first-known : (c d : Cell) → is_known_true (truth_of (truth_cell (same c d))) ≡ true → is_null c ≡ false
first-known cell.Null d e = cc
first-known _ d e = refl

second-known : (c d : Cell) → is_known_true (truth_of (truth_cell (same c d))) ≡ true → is_null d ≡ false
second-known cell.Null cell.Null e = cc
second-known (cell.Text s) cell.Null e = cc
second-known (cell.Int s) cell.Null e = cc
second-known (cell.Dec s) cell.Null e = cc
second-known (cell.Bool b) cell.Null e = cc
second-known (cell.Date s) cell.Null e = cc
second-known (cell.Stamp s) cell.Null e = cc
second-known (cell.Bin s) cell.Null e = cc
second-known (cell.Time s) cell.Null e = cc
second-known (cell.Term t) cell.Null e = cc
second-known c _ e = refl

module _ (ks : Kinds) (row : Row) (w : FitsRow ks row) where
  -- an expression whose value is not NULL
  known-side : (flags : List Bool) (x : Expr) (k : SqlType) → kind_of x ks ≡ Some k → is_null (value_of x row) ≡ false → HasKnown flags row → HasKnown (with_tested flags (IsNull x)) row
  known-side flags x k t h n = elim (nulls_on_null x) as (λ b. nulls_on_null x ≡ b → HasKnown (cond b (with_flags flags (columns x)) flags) row) [
    | true ↦ λ b. known-all flags row (columns x) n (sym (null-exactly ks row w x k t (and_parts (is_strict x) (names_column x) b).0) ∙ h)
    | false ↦ λ b. n
  ] refl

  known-tested : (flags : List Bool) (e : Expr) → kind_of e ks ≡ Some kind.Bool → holds (Not e) row ≡ true → HasKnown flags row → HasKnown (with_tested flags e) row
  known-tested flags (IsNull x) t h n =
      let m = map_given (λ (k : SqlType). kind.Bool) (kind_of x ks) kind.Bool t in
      known-side flags x m.0 m.1 (said-false (is_null (value_of x row)) h) n
  known-tested flags _ t h n = n

  known-told : (flags : List Bool) (c : Expr) → IsTruth ks c → holds c row ≡ true → HasKnown flags row → HasKnown (with_told flags c) row
  known-told flags (Same a b) t h n =
      let m = equality_given (kind_of a ks) (kind_of b ks) kind.Bool t in
      let va = value_of a row in
      let vb = value_of b row in
      known-side (with_tested flags (IsNull a)) b m.1.0 m.1.1 (second-known va vb h) (known-side flags a m.0.0 m.0.1 (first-known va vb h) n)
  known-told flags (Not e) t h n = known-tested flags e (one_is kind.Bool (kind_of e ks) (then_given (is_one kind.Bool (kind_of e ks)) kind.Bool kind.Bool t).0) h n
  known-told flags _ t h n = n

  known-each : (flags : List Bool) (cs : List Expr) → AreTruths ks cs → list_all (λ c. holds c row) cs ≡ true → HasKnown flags row → HasKnown (fold with_told flags cs) row
  known-each flags [] t h n = n
  known-each flags (c ∷ cs) t h n =
      let b = and_parts (holds c row) (list_all (λ c. holds c row) cs) h in
      known-each (with_told flags c) cs t.1 b.1 (known-told flags c t.0 b.0 n)

  known-condition : (flags : List Bool) (c : Expr) → IsTruth ks c → holds c row ≡ true → HasKnown flags row → HasKnown (with_all_told flags c) row
  known-condition flags c t h n = known-each flags (conjuncts c) (conjuncts-kind ks c t) (sym (holds-conjuncts c row) ∙ h) n

  -- what is made of such columns
  pub known-value : (flags : List Bool) (e : Expr) (k : SqlType) → HasKnown flags row → kind_of e ks ≡ Some k → is_known flags e ≡ true → is_null (value_of e row) ≡ false
  known-value flags e k n t h =
      let b = and_parts (is_strict e) (is_sure flags e) h in
      null-exactly ks row w e k t b.0 ∙ none-null flags row (columns e) n b.1

  known-projected : (flags : List Bool) (es : List Expr) (ls : Kinds) → HasKnown flags row → kinds_of (exprs es) ks ≡ Some ls → HasKnown (map (is_known flags) es) (values_of (exprs es) row)
  known-projected flags [] ls n t = tt
  known-projected flags (e ∷ es) ls n t =
      let m = first_given (kind_of e ks) (kinds_of (exprs es) ks) ls t in
      (λ h. known-value flags e m.0 n m.1 h, known-projected flags es m.2.0 n m.2.1)

-- ---- rows of plans

module _ (s : Tables) (db : Database) (m : MeetsSchema s db) where
  as-long : (p : Plan) (ks : Kinds) → plan_kinds s p ≡ Some ks → (r : Row) → Contains (rows_of s p db) r → length r ≡ length ks
  as-long p ks e r d = AllZip-long (λ k c. _) ks r (of_kinds s db m p ks e r d)

  -- a row of NULLs has a cell for each column of the plan
  nulls-long : (q : Plan) (ks : Kinds) → plan_kinds s q ≡ Some ks → length (replicate (width s q) cell.Null) ≡ length ks
  nulls-long q ks e = length-replicate (width s q) cell.Null ∙ ap (λ o. option_map_or length o 0) e

  mutual
    pub never : (p : Plan) (ks : Kinds) → plan_kinds s p ≡ Some ks → (r : Row) → Contains (rows_of s p db) r → HasKnown (never_null s p) r
    never UnitPlan ks e r d = subst (HasKnown []) (Contains-only [] r d) tt
    never (Empty ls) ks e r d = absurd (Contains-none r d)
    never (Scan table) ks e r d = sure s db m (Scan table) ks e r d
    never (Select c p) ks e r d =
        let a = checked-given c (plan_kinds s p) ks e in
        let b = Contains-from_filter (holds c) (rows_of s p db) r d in
        known-condition ks r (fits_row ks r (of_kinds s db m p ks a.0 r b.0)) (never_null s p) c a.1 b.1 (never p ks a.0 r b.0)
    never (Project es p) ks e r d = option_and_then_some (kinds_of (exprs es)) (plan_kinds s p) ks e (λ ls i j.
        let x = Contains-from_map (values_of (exprs es)) (rows_of s p db) r d in
        subst (HasKnown (map (is_known (never_null s p)) es)) x.2
        (known-projected ls x.0 (fits_row ls x.0 (of_kinds s db m p ls i x.0 x.1)) (never_null s p) es ks (never p ls i x.0 x.1) j))
    never (Join ps c) ks e r d =
        let a = checked-given c (beside_all (kinds_of_each s ps)) ks e in
        let g = beside_is (kinds_of_each s ps) ks a.0 in
        let b = Contains-from_filter (holds c) (product (rows_of_each s ps db)) r d in
        known-condition ks r (fits_row ks r (of_kinds s db m (Join ps c) ks e r d)) (flags_beside (never_null_each s ps)) c a.1 b.1 (never-beside ps g.0 g.1 r b.0)
    never (Left p q c) ks e r d =
        let a = both_given (plan_kinds s p) (plan_kinds s q) ks (checked-given c (joined (plan_kinds s p) (plan_kinds s q)) ks e).0 in
        let alone = filter (is_alone (holds c) (rows_of s q db)) (rows_of s p db) in
        let pad = λ (l : Row). l ++ replicate (width s q) cell.Null in
        let flags = never_null s p ++ unset (never_null s q) in
        elim (Contains-append_cases (filter (holds c) (pairs (rows_of s p db) (rows_of s q db))) (map pad alone) r d) [
          | inl f ↦
              let b = Contains-from_filter (holds c) (pairs (rows_of s p db) (rows_of s q db)) r f in
              let x = Contains-from_flat_map (λ l. map (λ t. l ++ t) (rows_of s q db)) (rows_of s p db) r b.0 in
              let y = Contains-from_map (λ t. x.0 ++ t) (rows_of s q db) r x.2 in
              subst (HasKnown flags) y.2
              (known-append (never_null s p) (unset (never_null s q)) x.0 y.0 (never p a.0 a.1 x.0 x.1) (unset-row (never_null s q) y.0 (as-long q a.2.0 a.2.1 y.0 y.1 ∙ sym (long s q a.2.0 a.2.1))))
          | inr f ↦
              let x = Contains-from_map pad alone r f in
              let b = Contains-from_filter (is_alone (holds c) (rows_of s q db)) (rows_of s p db) x.0 x.1 in
              let nulls = replicate (width s q) cell.Null in
              subst (HasKnown flags) x.2
              (known-append (never_null s p) (unset (never_null s q)) x.0 nulls (never p a.0 a.1 x.0 b.0) (unset-row (never_null s q) nulls (nulls-long q a.2.0 a.2.1 ∙ sym (long s q a.2.0 a.2.1))))
        ]
    never (AntiJoin p q c) ks e r d =
        never p ks (first_checked-parts c (plan_kinds s p) (plan_kinds s q) ks e).first r (Contains-from_filter (is_alone (holds c) (rows_of s q db)) (rows_of s p db) r d).0
    never (UnionAll ps) ks e r d = never-union ps ks (given-union s ks ps e) r d
    never (Distinct p) ks e r d = never p ks e r (Contains-from_distinct one_row (rows_of s p db) r d)

    never-beside : (ps : Plans) (kss : List Kinds) → kinds_of_each s ps ≡ Some kss → (r : Row) → Contains (product (rows_of_each s ps db)) r → HasKnown (flags_beside (never_null_each s ps)) r
    never-beside Nil kss e r d = subst (HasKnown []) (Contains-only [] r d) tt
    never-beside (More p ps) kss e r d =
        let a = first_given (plan_kinds s p) (kinds_of_each s ps) kss e in
        let x = Contains-from_flat_map (λ l. map (λ t. l ++ t) (product (rows_of_each s ps db))) (rows_of s p db) r d in
        let y = Contains-from_map (λ t. x.0 ++ t) (product (rows_of_each s ps db)) r x.2 in
        subst (HasKnown (flags_beside (never_null_each s (More p ps)))) y.2
        (known-append (never_null s p) (flags_beside (never_null_each s ps)) x.0 y.0 (never p a.0 a.1 x.0 x.1) (never-beside ps a.2.0 a.2.1 y.0 y.1))

    never-union : (ps : Plans) (ks : Kinds) → AllKinds s ks ps → (r : Row) → Contains (flat_map (λ rows. rows) (rows_of_each s ps db)) r → HasKnown (common (never_null_each s ps)) r
    never-union Nil ks h r d = absurd (Contains-none r d)
    never-union (More p ps) ks h r d = elim (Contains-append_cases (rows_of s p db) (flat_map (λ rows. rows) (rows_of_each s ps db)) r d) [
      | inl f ↦ common-first (never_null s p) (never_null_each s ps) r (never p ks h.0 r f)
      | inr f ↦ never-later ps ks h.1 (never_null s p) (long s p ks h.0) r f
    ]

    -- a row of a later member
    never-later : (ps : Plans) (ks : Kinds) → AllKinds s ks ps → (fs : List Bool) → length fs ≡ length ks → (r : Row) → Contains (flat_map (λ rows. rows) (rows_of_each s ps db)) r → HasKnown (fold both fs (never_null_each s ps)) r
    never-later Nil ks h fs l r d = absurd (Contains-none r d)
    never-later (More p ps) ks h fs l r d = elim (Contains-append_cases (rows_of s p db) (flat_map (λ rows. rows) (rows_of_each s ps db)) r d) [
      | inl f ↦
          let w = as-long p ks h.0 r f in
          common-first (both fs (never_null s p)) (never_null_each s ps) r (both-second fs (never_null s p) r (never p ks h.0 r f) (l ∙ sym w))
      | inr f ↦ never-later ps ks h.1 (both fs (never_null s p)) (long-both fs (never_null s p) ∙ l) r f
    ]

  pairs-never : (p q : Plan) (ks ls : Kinds) → plan_kinds s p ≡ Some ks → plan_kinds s q ≡ Some ls → (r : Row) → Contains (pairs (rows_of s p db) (rows_of s q db)) r → HasKnown (never_null s p ++ never_null s q) r
  pairs-never p q ks ls e f r d =
      let x = Contains-from_flat_map (λ l. map (λ t. l ++ t) (rows_of s q db)) (rows_of s p db) r d in
      let y = Contains-from_map (λ t. x.0 ++ t) (rows_of s q db) r x.2 in
      subst (HasKnown (never_null s p ++ never_null s q)) y.2
      (known-append (never_null s p) (never_null s q) x.0 y.0 (never p ks e x.0 x.1) (never q ls f y.0 y.1))

  -- so it is where a plan's own expressions are taken
  pub own-never : (p : Plan) (ks : Kinds) → own_kinds s p ≡ Some ks → HaveKnown (own_never_null s p) (own_rows s p db)
  own-never (Select c p) ks e = recursion_from_each (HasKnown (never_null s p)) (rows_of s p db) (never p ks e)
  own-never (Project es p) ks e = recursion_from_each (HasKnown (never_null s p)) (rows_of s p db) (never p ks e)
  own-never (Join ps c) ks e =
      let a = beside_is (kinds_of_each s ps) ks e in
      recursion_from_each (HasKnown (flags_beside (never_null_each s ps))) (product (rows_of_each s ps db)) (never-beside ps a.0 a.1)
  own-never (Left p q c) ks e =
      let a = both_given (plan_kinds s p) (plan_kinds s q) ks e in
      recursion_from_each (HasKnown (never_null s p ++ never_null s q)) (pairs (rows_of s p db) (rows_of s q db)) (pairs-never p q a.0 a.2.0 a.1 a.2.1)
  own-never (AntiJoin p q c) ks e =
      let a = both_given (plan_kinds s p) (plan_kinds s q) ks e in
      recursion_from_each (HasKnown (never_null s p ++ never_null s q)) (pairs (rows_of s p db) (rows_of s q db)) (pairs-never p q a.0 a.2.0 a.1 a.2.1)
  own-never _ ks e = cc
