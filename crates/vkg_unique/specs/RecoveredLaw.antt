-- Rows on which such expressions have the same values are one row.
use Rattle.std.proofs.Common.{◌≡◌, ◌∙◌, ◌⊎◌, inl, inr, ℕ, zero, suc, ◌+◌, Bool, true, false, cond, true≢false, ◌&&◌, List, [], ◌∷◌, ◌++◌, length, drop, refl, sym, ap, subst, arith}
use Rattle.std.specs.Prelude.{Option, Some, None, fold, slice_get}
use Rattle.std.specs.List.{AllByRecursion, Contains, list_all, list_any}
use Rattle.std.specs.Option.{option_map_or}
use Rattle.std.proofs.lemmas.Bool.{or_cases}
use Rattle.std.proofs.lemmas.List.{get_or-drop}
use Rattle.std.proofs.lemmas.Option.{unwrap_or-slice_get}
use Rattle.vkg_lists.proofs.Bools.{and_parts}
use Rattle.vkg_lists.proofs.Members.{Contains-from_filter, Contains-only, each_from_recursion}
use Rattle.vkg_lists.proofs.Onto.{first_given}
use Rattle.vkg_lists.proofs.Positions.{Found, found, get_member}
use Rattle.vkg_cells.specs.declared.cell.Cell.{Cell}
use Rattle.vkg_cells.specs.declared.cell.SqlType.{SqlType}
use Rattle.vkg_schema.specs.declared.table.Table.{Table}
use Rattle.vkg_schema.specs.Meets.{IsWellFormed, MeetsSchema}
use Rattle.vkg_schema.specs.Rows.{Database, Row, cell_at, is_null, rows_of as table_rows}
use Rattle.vkg_schema.proofs.RowCells.{cell_at-right}
use Rattle.vkg_expr.specs.declared.term_expr.Sort.{Sort}
use Rattle.vkg_expr.specs.declared.term_expr.Sort.TheVariants.{OfIri, OfBlank, OfLit}
use Rattle.vkg_expr.specs.declared.term_expr.Piece.{Piece}
use Rattle.vkg_expr.specs.declared.term_expr.TermExpr.{TermExpr}
use Rattle.vkg_expr.specs.declared.term_expr.TermExpr.TheVariants.{Fixed, Made, Resolved}
use Rattle.vkg_expr.specs.Expr.{Expr, Col, exprs}
use Rattle.vkg_expr.specs.TermExprs.{term_expr}
use Rattle.vkg_expr.specs.Value.{holds, term_of, value_of, values_of}
use Rattle.vkg_expr.proofs.TermValues.{pieces_text, term_read}
use Rattle.vkg_match.specs.Cut.{is_separable}
use Rattle.vkg_match.proofs.Forms.{Proper}
use Rattle.vkg_match.proofs.Holes.{Held, held}
use Rattle.vkg_plan.specs.Kinds.{Kinds, Tables, beside_all, kinds_of_each, plan_kinds, width}
use Rattle.vkg_plan.specs.Plan.{Plan, Plans, Unit as UnitPlan, Empty, Scan, Select, Project, Join, Left, AntiJoin, UnionAll, Distinct, Nil, More}
use Rattle.vkg_plan.specs.Rows.{product, rows_of, rows_of_each}
use Rattle.vkg_plan.proofs.RowsFit.{beside_is}
use Rattle.vkg_rules.specs.Measure.{kinds_or_none, or_no_kinds}
use Rattle.vkg_shapes.specs.PartsLaw.{wide}
use Rattle.vkg_equalities.specs.Recognised.{recognised}
use Rattle.vkg_equalities.specs.RecognisedLaw.{HasHoles, IsHoleOf, recognised-is}
use Rattle.vkg_equalities.specs.TableColumns.{flag_at, table_columns}
use Rattle.vkg_equalities.specs.TableColumnsLaw.{FitsColumns, cells}
use Rattle.vkg_keys.specs.Keys.{AreWide, is_full}
use Rattle.vkg_keys.proofs.FullKeys.{full-known, one_with_key, some_true}
use Rattle.vkg_keys.proofs.TableRows.{key_holds, row_fits, table_meets}
use Rattle.vkg_unique.specs.DistinctRows.{of_pair}
use Rattle.vkg_unique.specs.HolesLaw.{AreProper, one-same, only, term-text}
use Rattle.vkg_unique.specs.PartedLaw.{parted-same}
use Rattle.vkg_unique.specs.Recovered.{are_keys_given, are_keys_given_in, given_back, given_by_term, given_in_all, hole_columns, is_good_at, is_key_given, is_one, is_parted, is_readable, is_recovered, is_text}
use Rattle.vkg_unique.specs.Sure.{sure_columns, unset, with_flag, with_flags}
use Rattle.vkg_unique.specs.SureLaw.{checked-given, known-at, of_kinds, sure}

-- the two rows have one cell there
abbrev pub SameAt : Row → Row → ℕ → Type 0
SameAt z w at = cell_at z at ≡ cell_at w at

-- ---- what the value of an expression gives back

module _ (is_good : ℕ → Bool) (ks : Kinds) (z w : Row) (of_z : AreProper is_good ks z) (of_w : AreProper is_good ks w) where
  by_parts : (sort : Sort) (ps : List Piece) → list_all is_good (hole_columns ps) ≡ true → is_parted sort ps ≡ true → AllByRecursion (IsHoleOf ks) ps → pieces_text sort z ps ≡ pieces_text sort w ps → AllByRecursion (SameAt z w) (hole_columns ps)
  by_parts OfIri ps g r i h =
      let b = and_parts (list_all is_text ps) (is_separable ps) r in
      parted-same is_good ks z w of_z of_w ps true g b.0 b.1 i h
  by_parts OfBlank ps g r i h = absurd (true≢false (sym r))
  by_parts (OfLit a) ps g r i h = absurd (true≢false (sym r))

  by_one : (sort : Sort) (ps : List Piece) (at : ℕ) → hole_columns ps ≡ at ∷ [] → list_all is_good (hole_columns ps) ≡ true → AllByRecursion (IsHoleOf ks) ps → pieces_text sort z ps ≡ pieces_text sort w ps → AllByRecursion (SameAt z w) (hole_columns ps)
  by_one sort ps at e g i h =
      let good = and_parts (is_good at) true (sym (ap (list_all is_good) e) ∙ g) in
      subst (AllByRecursion (SameAt z w)) (sym e) (one-same is_good ks z w of_z of_w sort ps at e i good.0 h, tt)

  holes-same : (sort : Sort) (ps : List Piece) → list_all is_good (hole_columns ps) ≡ true → is_readable sort ps ≡ true → AllByRecursion (IsHoleOf ks) ps → pieces_text sort z ps ≡ pieces_text sort w ps → AllByRecursion (SameAt z w) (hole_columns ps)
  holes-same sort ps g r i h = elim (or_cases (is_one (hole_columns ps)) (is_parted sort ps) r) [
    | inl o ↦ let m = only (hole_columns ps) o in by_one sort ps m.0 m.1 g i h
    | inr o ↦ by_parts sort ps g o i h
  ]

  term-same : (f : TermExpr) → HasHoles ks f → value_of (term_expr f) z ≡ value_of (term_expr f) w → AllByRecursion (SameAt z w) (given_by_term is_good f)
  term-same (Fixed t) i h = tt
  term-same (Resolved base at k) i h = tt
  term-same (Made sort ps) i h =
      let texts = term-text sort (pieces_text sort z ps) (pieces_text sort w ps) (sym (term_read z (Made sort ps)) ∙ ap term_of h ∙ term_read w (Made sort ps)) in
      elim (list_all is_good (hole_columns ps) && is_readable sort ps) as (λ b. (list_all is_good (hole_columns ps) && is_readable sort ps) ≡ b → AllByRecursion (SameAt z w) (cond b (hole_columns ps) [])) [
        | true ↦ λ e. let b = and_parts (list_all is_good (hole_columns ps)) (is_readable sort ps) e in holes-same sort ps b.0 b.1 i texts
        | false ↦ λ e. tt
      ] refl

  by_term : (e : Expr) (o : Option TermExpr) → recognised ks e ≡ o → value_of e z ≡ value_of e w → AllByRecursion (SameAt z w) (option_map_or (given_by_term is_good) o [])
  by_term e None r h = tt
  by_term e (Some f) r h =
      let is = recognised-is ks e f r in
      term-same f is.1 (ap (λ x. value_of x z) is.0 ∙ h ∙ ap (λ x. value_of x w) (sym is.0))

  given-same : (e : Expr) → value_of e z ≡ value_of e w → AllByRecursion (SameAt z w) (given_back is_good ks e)
  given-same (Col at) h = (h, tt)
  given-same e h = by_term e (recognised ks e) refl h

-- ---- flags of columns in which two rows are the same

flag-set : (flags : List Bool) (at k : ℕ) → flag_at (with_flag flags at) k ≡ true → (at ≡ k) ⊎ (flag_at flags k ≡ true)
flag-set [] at k h = inr h
flag-set (f ∷ fs) zero zero h = inl refl
flag-set (f ∷ fs) zero (suc k) h = inr h
flag-set (f ∷ fs) (suc at) zero h = inr h
flag-set (f ∷ fs) (suc at) (suc k) h = elim (flag-set fs at k h) [ inl e ↦ inl (ap suc e) | inr e ↦ inr e ]

flag-unset : (ks : Kinds) (k : ℕ) → flag_at (unset ks) k ≡ true → ⊥
flag-unset [] k h = true≢false (sym h)
flag-unset (l ∷ ks) zero h = true≢false (sym h)
flag-unset (l ∷ ks) (suc k) h = flag-unset ks k h

-- they are the same in each flagged column
abbrev pub SameFlagged : Row → Row → List Bool → Type 0
SameFlagged z w flags = (k : ℕ) → flag_at flags k ≡ true → SameAt z w k

module _ (z w : Row) where
  same-set : (flags : List Bool) (at : ℕ) → SameAt z w at → SameFlagged z w flags → SameFlagged z w (with_flag flags at)
  same-set flags at h s k e = elim (flag-set flags at k e) [ inl i ↦ subst (SameAt z w) i h | inr i ↦ s k i ]

  same-flags : (flags : List Bool) (columns : List ℕ) → AllByRecursion (SameAt z w) columns → SameFlagged z w flags → SameFlagged z w (with_flags flags columns)
  same-flags flags [] h s = s
  same-flags flags (at ∷ columns) h s = same-flags (with_flag flags at) columns h.1 (same-set flags at h.0 s)

  same-given : (given : Expr → List ℕ) → ((e : Expr) → value_of e z ≡ value_of e w → AllByRecursion (SameAt z w) (given e)) → (flags : List Bool) (es : List Expr) →
      values_of (exprs es) z ≡ values_of (exprs es) w → SameFlagged z w flags → SameFlagged z w (fold (λ flags e. with_flags flags (given e)) flags es)
  same-given given law flags [] h s = s
  same-given given law flags (e ∷ es) h s =
      let here : value_of e z ≡ value_of e w = cc h in
      let rest : values_of (exprs es) z ≡ values_of (exprs es) w = cc h in
      same-given given law (with_flags flags (given e)) es rest (same-flags flags (given e) (law e here) s)

-- ---- rows that are the same in a key of each table

flag-behind : (n : ℕ) (flags : List Bool) (k : ℕ) → flag_at (drop n flags) k ≡ flag_at flags (n + k)
flag-behind n flags k = unwrap_or-slice_get (drop n flags) k false ∙ get_or-drop n flags k false ∙ sym (unwrap_or-slice_get flags (n + k) false)

-- the cells of the first parts of two rows
left-cells : (l m r t : Row) → length l ≡ length m → (k : ℕ) → cell_at (l ++ r) k ≡ cell_at (m ++ t) k → cell_at l k ≡ cell_at m k
left-cells [] [] r t n k e = refl
left-cells [] (d ∷ m) r t n k e = absurd (omega (arith, n))
left-cells (c ∷ l) [] r t n k e = absurd (omega (arith, n))
left-cells (c ∷ l) (d ∷ m) r t n zero e = e
left-cells (c ∷ l) (d ∷ m) r t n (suc k) e = left-cells l m r t (omega (arith, n)) k e

key-cells : (flags : List Bool) (z w : Row) → SameFlagged z w flags → (columns : List ℕ) → list_all (flag_at flags) columns ≡ true → AllByRecursion (λ k. cell_at z k ≡ cell_at w k) columns
key-cells flags z w h [] e = tt
key-cells flags z w h (k ∷ columns) e = let b = and_parts (flag_at flags k) (list_all (flag_at flags) columns) e in (h k b.0, key-cells flags z w h columns b.1)

module _ (s : Tables) (db : Database) (meets : MeetsSchema s db) where
  one-scan : (flags : List Bool) (table : ℕ) → are_keys_given s flags (Scan table) ≡ true → (z w : Row) → Contains (table_rows db table) z → Contains (table_rows db table) w → SameFlagged z w flags → z ≡ w
  one-scan flags table h z w cz cw same =
      let t = some_true (λ (t : Table). list_any (is_key_given flags t) t.keys) (slice_get s table) h in
      let m = table_meets s db meets table t.0 t.1 in
      let f = found (is_key_given flags t.0) t.0.keys t.2 in
      let k : Found (is_key_given flags t.0) t.0.keys f.0 f.1 = f.2 in
      let b = and_parts (is_full t.0 f.1) (list_all (flag_at flags) f.1.columns) k.passes in
      let known = full-known t.0 z (row_fits db t.0 (table_rows db table) m z cz) f.1.columns b.0 in
      one_with_key f.1 (table_rows db table) (key_holds db t.0 (table_rows db table) m f.1 (get_member t.0.keys f.0 f.1 k.at)) z w cz cw known (key-cells flags z w same f.1.columns b.1)

  pub wide-plan : (p : Plan) (ks : Kinds) → plan_kinds s p ≡ Some ks → AreWide (length ks) (rows_of s p db)
  wide-plan p ks e r d = sym (wide ks r (of_kinds s db meets p ks e r d))

  mutual
    pub one_by_keys : (p : Plan) (ks : Kinds) (flags : List Bool) → plan_kinds s p ≡ Some ks → are_keys_given s flags p ≡ true → (z w : Row) → Contains (rows_of s p db) z → Contains (rows_of s p db) w → SameFlagged z w flags → z ≡ w
    one_by_keys UnitPlan ks flags e h z w cz cw same = absurd (true≢false (sym h))
    one_by_keys (Empty ls) ks flags e h z w cz cw same = absurd (true≢false (sym h))
    one_by_keys (Scan table) ks flags e h z w cz cw same = one-scan flags table h z w cz cw same
    one_by_keys (Select c p) ks flags e h z w cz cw same =
        one_by_keys p ks flags (checked-given c (plan_kinds s p) ks e).0 h z w (Contains-from_filter (holds c) (rows_of s p db) z cz).0 (Contains-from_filter (holds c) (rows_of s p db) w cw).0 same
    one_by_keys (Project es p) ks flags e h z w cz cw same = absurd (true≢false (sym h))
    one_by_keys (Join ps c) ks flags e h z w cz cw same =
        let a = beside_is (kinds_of_each s ps) ks (checked-given c (beside_all (kinds_of_each s ps)) ks e).0 in
        let rows = product (rows_of_each s ps db) in
        one_in_product ps a.0 flags a.1 h z w (Contains-from_filter (holds c) rows z cz).0 (Contains-from_filter (holds c) rows w cw).0 same
    one_by_keys (Left p q c) ks flags e h z w cz cw same = absurd (true≢false (sym h))
    one_by_keys (AntiJoin p q c) ks flags e h z w cz cw same = absurd (true≢false (sym h))
    one_by_keys (UnionAll ps) ks flags e h z w cz cw same = absurd (true≢false (sym h))
    one_by_keys (Distinct p) ks flags e h z w cz cw same = absurd (true≢false (sym h))

    one_in_product : (ps : Plans) (kss : List Kinds) (flags : List Bool) → kinds_of_each s ps ≡ Some kss → are_keys_given_in s flags ps ≡ true → (z w : Row) → Contains (product (rows_of_each s ps db)) z → Contains (product (rows_of_each s ps db)) w → SameFlagged z w flags → z ≡ w
    one_in_product Nil kss flags e h z w cz cw same = sym (Contains-only [] z cz) ∙ Contains-only [] w cw
    one_in_product (More p ps) kss flags e h z w cz cw same =
        let a = first_given (plan_kinds s p) (kinds_of_each s ps) kss e in
        let b = and_parts (are_keys_given s flags p) (are_keys_given_in s (drop (width s p) flags) ps) h in
        let wide = wide-plan p a.0 a.1 in
        let is_wide : width s p ≡ length a.0 = ap (λ o. option_map_or length o 0) a.1 in
        let x = of_pair (length a.0) (rows_of s p db) (product (rows_of_each s ps db)) wide z cz in
        let y = of_pair (length a.0) (rows_of s p db) (product (rows_of_each s ps db)) wide w cw in
        let lx : length x.0 ≡ length a.0 = wide x.0 x.1 in
        let ly : length y.0 ≡ length a.0 = wide y.0 y.1 in
        let pairs_same : SameFlagged (x.0 ++ x.2.0) (y.0 ++ y.2.0) flags = λ k m. ap (λ r. cell_at r k) x.2.2 ∙ same k m ∙ ap (λ r. cell_at r k) (sym y.2.2) in
        let l : x.0 ≡ y.0 = one_by_keys p a.0 flags a.1 b.0 x.0 y.0 x.1 y.1 (λ k m. left-cells x.0 y.0 x.2.0 y.2.0 (lx ∙ sym ly) k (pairs_same k m)) in
        let r : x.2.0 ≡ y.2.0 = one_in_product ps a.2.0 (drop (width s p) flags) a.2.1 b.1 x.2.0 y.2.0 x.2.1 y.2.1 (λ k m.
        sym (cell_at-right x.0 x.2.0 (width s p + k) k (omega (arith, is_wide, lx)))
        ∙ pairs_same (width s p + k) (sym (flag-behind (width s p) flags k) ∙ m)
        ∙ cell_at-right y.0 y.2.0 (width s p + k) k (omega (arith, is_wide, ly))) in
        sym x.2.2 ∙ (λ i. l i ++ r i) ∙ y.2.2

  -- ---- the cells of a plan's rows in columns of tables that are never NULL

  not-null : (k : SqlType) (c : Cell) → Held k c → is_null c ≡ false → Proper k c
  not-null k c (inl e) n = absurd (true≢false (ap is_null (sym e) ∙ n))
  not-null k c (inr p) n = p

  pub proper-row : IsWellFormed s → (p : Plan) (ks : Kinds) → plan_kinds s p ≡ Some ks → (r : Row) → Contains (rows_of s p db) r → AreProper (is_good_at (table_columns s p) (sure_columns s p)) ks r
  proper-row form p ks e r d at k g i =
      let b = and_parts (flag_at (table_columns s p) at) (flag_at (sure_columns s p) at) g in
      let f : FitsColumns (flag_at (table_columns s p)) ks r = each_from_recursion (FitsColumns (flag_at (table_columns s p)) ks) (rows_of s p db) (cells s db form meets p ks e) r d in
      not-null k (cell_at r at) (held k (cell_at r at) (f at k b.0 i)) (known-at (sure_columns s p) r at (sure s db meets p ks e r d) b.1)

  -- the values of the expressions tell the rows apart
  pub one_by_values : IsWellFormed s → (es : List Expr) (p : Plan) (ks : Kinds) → plan_kinds s p ≡ Some ks → is_recovered s es p ≡ true →
      (z w : Row) → Contains (rows_of s p db) z → Contains (rows_of s p db) w → values_of (exprs es) z ≡ values_of (exprs es) w → z ≡ w
  unfolding given_in_all
  one_by_values form es p ks e u z w cz cw h =
      let good = is_good_at (table_columns s p) (sure_columns s p) in
      let is : kinds_or_none s p ≡ ks = ap or_no_kinds e in
      let flags : Kinds → List Bool = λ ls. given_in_all (table_columns s p) (sure_columns s p) ls es in
      one_by_keys p ks (flags ks) e (ap (λ ls. are_keys_given s (flags ls) p) (sym is) ∙ u) z w cz cw
      (same-given z w (given_back good ks) (λ x v. given-same good ks z w (proper-row form p ks e z cz) (proper-row form p ks e w cw) x v) (unset ks) es h (λ k f. absurd (flag-unset ks k f)))
