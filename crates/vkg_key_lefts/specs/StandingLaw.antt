-- A Scan that stands in a plan: in each row of the plan a row of its table, and among its kinds those of the table.
use Rattle.std.proofs.Common.{◌≡◌, ◌∙◌, inl, inr, ℕ, zero, suc, ◌+◌, ◌<◌, Bool, true, not, List, [], ◌∷◌, ◌++◌, append-nil, append_assoc, length, length-append, map, replicate, refl, sym, ap, subst, arith}
use Rattle.std.specs.Prelude.{Option, Some, is_some}
use Rattle.std.specs.List.{Contains, filter}
use Rattle.std.proofs.lemmas.List.Elements.{Contains-append_cases}
use Rattle.std.proofs.lemmas.Option.{same_Some}
use Rattle.vkg_lists.proofs.Members.{Contains-from_filter, Contains-from_flat_map, Contains-from_map, Contains-none, Contains-only}
use Rattle.vkg_lists.proofs.Onto.{both_given, first_given}
use Rattle.vkg_lists.specs.Options.{joined}
use Rattle.vkg_cells.specs.declared.cell.Cell.TheVariants as cell
use Rattle.vkg_schema.specs.Meets.{MeetsSchema}
use Rattle.vkg_schema.specs.Rows.{Database, Row, cell_at, is_null, rows_of as table_rows}
use Rattle.vkg_expr.specs.Expr.{Expr}
use Rattle.vkg_expr.specs.Value.{holds}
use Rattle.vkg_columns.proofs.Conjuncts.{IsTruth}
use Rattle.vkg_plan.specs.Kinds.{Kinds, Tables, beside_all, checked, kinds_of_each, plan_kinds, side_by_side, width}
use Rattle.vkg_plan.specs.Plan.{Plan, Plans, Unit as UnitPlan, Empty, Scan, Select, Project, Join, Left, AntiJoin, UnionAll, Distinct, Nil, More}
use Rattle.vkg_plan.specs.Rows.{is_alone, left_pairs, pairs, product, rows_of, rows_of_each}
use Rattle.vkg_plan.proofs.RowsFit.{beside_is, checked_parts, rows-fit}
use Rattle.vkg_rules.specs.Measure.{kinds_or_none, or_no_kinds}
use Rattle.vkg_rules.specs.Parts.{checked-is}
use Rattle.vkg_shapes.specs.TableRows.{tables_fit}
use Rattle.vkg_keys.proofs.Parts.{part-at}
use Rattle.vkg_keys.proofs.Places.{wide-kinds}
use Rattle.vkg_keys.proofs.SelfJoin.{grouped}
use Rattle.vkg_key_lefts.specs.declared.standing.StandingScan.{StandingScan}
use Rattle.vkg_key_lefts.specs.Standing.{standing, standing_beside}

-- the kinds below a condition, over which it is a truth
pub checked-given : (c : Expr) (o : Option Kinds) (ks : Kinds) → checked c o ≡ Some ks → (o ≡ Some ks) × IsTruth ks c
checked-given c o ks e =
    let some = sym (checked-is c o (ap is_some e)) ∙ e in
    let a = checked_parts c o (ap is_some e) in
    (some, subst (λ ls. IsTruth ls c) (same_Some a.0 ks (sym a.1 ∙ some)) a.2)

-- a cell that is not NULL is one of the row's
pub known-inside : (row : Row) (k : ℕ) → not (is_null (cell_at row k)) ≡ true → k < length row
known-inside [] k h = cc
known-inside (c ∷ row) zero h = omega arith
known-inside (c ∷ row) (suc k) h = let i = known-inside row k h in omega (arith, i)

-- ---- rows

-- the row of the table, with what stands before it and behind it
pub record HasRow (db : Database) (x : StandingScan) (row : Row) : Type 0 where
  pub first : Row
  pub wide : length first ≡ length x.before
  pub own : Row
  pub member : Contains (table_rows db x.table) own
  pub last : Row
  pub together : first ++ (own ++ last) ≡ row

-- its cells, where other cells stand behind the whole row
pub standing-cell : (db : Database) (x : StandingScan) (row other : Row) (h : HasRow db x row) (k : ℕ) → k < length h.own → cell_at (row ++ other) (length x.before + k) ≡ cell_at h.own k
standing-cell db x row other h k b =
    ap (λ r. cell_at (r ++ other) (length x.before + k)) (sym h.together)
    ∙ ap (λ r. cell_at r (length x.before + k)) (grouped h.first h.own h.last other)
    ∙ part-at h.first h.own (h.last ++ other) (length x.before) k h.wide b

-- a row of a left join begins with a left row
record BeginsWith (ls : List Row) (row : Row) : Type 0 where
  left : Row
  member : Contains ls left
  rest : Row
  together : left ++ rest ≡ row

left-row : (pass : Row → Bool) (n : ℕ) (ls rs : List Row) (row : Row) → Contains (left_pairs pass n ls rs) row → BeginsWith ls row
left-row pass n ls rs row d = elim (Contains-append_cases (filter pass (pairs ls rs)) (map (λ l. l ++ replicate n cell.Null) (filter (is_alone pass rs) ls)) row d) [
  | inl h ↦
      let f = Contains-from_filter pass (pairs ls rs) row h in
      let x = Contains-from_flat_map (λ l. map (λ t. l ++ t) rs) ls row f.0 in
      let y = Contains-from_map (λ t. x.0 ++ t) rs row x.2 in
      record { left = x.0; member = x.1; rest = y.0; together = y.2 }
  | inr h ↦
      let y = Contains-from_map (λ l. l ++ replicate n cell.Null) (filter (is_alone pass rs) ls) row h in
      record { left = y.0; member = (Contains-from_filter (is_alone pass rs) ls y.0 y.1).0; rest = replicate n cell.Null; together = y.2 }
]

-- others behind it
more : (db : Database) (x : StandingScan) (front row rest : Row) → HasRow db x (front ++ row) → HasRow db x (front ++ (row ++ rest))
more db x front row rest h = record {
  first = h.first;
  wide = h.wide;
  own = h.own;
  member = h.member;
  last = h.last ++ rest;
  together = sym (grouped h.first h.own h.last rest) ∙ ap (λ r. r ++ rest) h.together ∙ append_assoc front row rest;
}

module _ (s : Tables) (db : Database) (m : MeetsSchema s db) where
  plan-wide : (p : Plan) (ks : Kinds) → plan_kinds s p ≡ Some ks → (r : Row) → Contains (rows_of s p db) r → length r ≡ length (kinds_or_none s p)
  plan-wide p ks e r d =
      wide-kinds ks (length ks) (rows_of s p db) refl (rows-fit s db (tables_fit s db m) p ks e) r d
      ∙ ap (λ o. length (or_no_kinds o)) (sym e)

  -- the row, behind one of these kinds' length
  mutual
    has : (p : Plan) (ks : Kinds) → plan_kinds s p ≡ Some ks → (row : Row) → Contains (rows_of s p db) row → (before : Kinds) (front : Row) → length front ≡ length before →
        (x : StandingScan) → Contains (standing s before p) x → HasRow db x (front ++ row)
    has (Scan table) ks e row d before front w x i =
        let here : StandingScan = record { before = before; table = table } in
        let is : here ≡ x = Contains-only here x i in
        subst (λ y. HasRow db y (front ++ row)) is (record { first = front; wide = w; own = row; member = d; last = []; together = ap (λ r. front ++ r) (append-nil row) })
    has (Select c p) ks e row d before front w x i =
        has p ks (checked-given c (plan_kinds s p) ks e).0 row (Contains-from_filter (holds c) (rows_of s p db) row d).0 before front w x i
    has (Join ps c) ks e row d before front w x i =
        let a = checked-given c (beside_all (kinds_of_each s ps)) ks e in
        let g = beside_is (kinds_of_each s ps) ks a.0 in
        let b = Contains-from_filter (holds c) (product (rows_of_each s ps db)) row d in
        has-beside ps g.0 g.1 row b.0 before front w x i
    has (Left p q c) ks e row d before front w x i =
        let a = both_given (plan_kinds s p) (plan_kinds s q) ks (checked-given c (joined (plan_kinds s p) (plan_kinds s q)) ks e).0 in
        let l = left-row (holds c) (width s q) (rows_of s p db) (rows_of s q db) row d in
        subst (λ r. HasRow db x (front ++ r)) l.together (more db x front l.left l.rest (has p a.0 a.1 l.left l.member before front w x i))
    has UnitPlan ks e row d before front w x i = absurd (Contains-none x i)
    has (AntiJoin p q c) ks e row d before front w x i = absurd (Contains-none x i)
    has (Empty ls) ks e row d before front w x i = absurd (Contains-none x i)
    has (Project es p) ks e row d before front w x i = absurd (Contains-none x i)
    has (UnionAll ps) ks e row d before front w x i = absurd (Contains-none x i)
    has (Distinct p) ks e row d before front w x i = absurd (Contains-none x i)

    has-beside : (ps : Plans) (kss : List Kinds) → kinds_of_each s ps ≡ Some kss → (row : Row) → Contains (product (rows_of_each s ps db)) row → (before : Kinds) (front : Row) → length front ≡ length before →
        (x : StandingScan) → Contains (standing_beside s before ps) x → HasRow db x (front ++ row)
    has-beside Nil kss e row d before front w x i = absurd (Contains-none x i)
    has-beside (More p ps) kss e row d before front w x i =
        let a = first_given (plan_kinds s p) (kinds_of_each s ps) kss e in
        let u = Contains-from_flat_map (λ l. map (λ t. l ++ t) (product (rows_of_each s ps db))) (rows_of s p db) row d in
        let v = Contains-from_map (λ t. u.0 ++ t) (product (rows_of_each s ps db)) row u.2 in
        let lu = plan-wide p a.0 a.1 u.0 u.1 in
        let lf = length-append front u.0 in
        let lk = length-append before (kinds_or_none s p) in
        subst (λ r. HasRow db x (front ++ r)) v.2 (elim (Contains-append_cases (standing s before p) (standing_beside s (before ++ kinds_or_none s p) ps) x i) [
          | inl h ↦ more db x front u.0 v.0 (has p a.0 a.1 u.0 u.1 before front w x h)
          | inr h ↦ subst (HasRow db x) (append_assoc front u.0 v.0) (has-beside ps a.2.0 a.2.1 v.0 v.1 (before ++ kinds_or_none s p) (front ++ u.0) (omega (arith, w, lu, lf, lk)) x h)
        ])

  -- each row of the plan has a row of the table
  pub has-row : (p : Plan) (ks : Kinds) → plan_kinds s p ≡ Some ks → (x : StandingScan) → Contains (standing s [] p) x → (row : Row) → Contains (rows_of s p db) row → HasRow db x row
  has-row p ks e x i row d = has p ks e row d [] [] refl x i

-- ---- kinds

-- the kinds of the table, with those that stand before them and behind them
pub record HasTable (s : Tables) (x : StandingScan) (ks : Kinds) : Type 0 where
  pub own : Kinds
  pub of_own : plan_kinds s (Scan x.table) ≡ Some own
  pub last : Kinds
  pub together : x.before ++ (own ++ last) ≡ ks

pub regrouped : (a b c d : Kinds) → (a ++ (b ++ c)) ++ d ≡ a ++ (b ++ (c ++ d))
regrouped a b c d = append_assoc a (b ++ c) d ∙ ap (λ z. a ++ z) (append_assoc b c d)

kinds-more : (s : Tables) (x : StandingScan) (before ks rest : Kinds) → HasTable s x (before ++ ks) → HasTable s x (before ++ (ks ++ rest))
kinds-more s x before ks rest h = record {
  own = h.own;
  of_own = h.of_own;
  last = h.last ++ rest;
  together = sym (regrouped x.before h.own h.last rest) ∙ ap (λ z. z ++ rest) h.together ∙ append_assoc before ks rest;
}

module _ (s : Tables) where
  mutual
    among : (p : Plan) (ks : Kinds) → plan_kinds s p ≡ Some ks → (before : Kinds) (x : StandingScan) → Contains (standing s before p) x → HasTable s x (before ++ ks)
    among (Scan table) ks e before x i =
        let here : StandingScan = record { before = before; table = table } in
        let is : here ≡ x = Contains-only here x i in
        subst (λ y. HasTable s y (before ++ ks)) is (record { own = ks; of_own = e; last = []; together = ap (λ z. before ++ z) (append-nil ks) })
    among (Select c p) ks e before x i = among p ks (checked-given c (plan_kinds s p) ks e).0 before x i
    among (Join ps c) ks e before x i =
        let a = checked-given c (beside_all (kinds_of_each s ps)) ks e in
        let g = beside_is (kinds_of_each s ps) ks a.0 in
        subst (λ z. HasTable s x (before ++ z)) g.2 (among-beside ps g.0 g.1 before x i)
    among (Left p q c) ks e before x i =
        let a = both_given (plan_kinds s p) (plan_kinds s q) ks (checked-given c (joined (plan_kinds s p) (plan_kinds s q)) ks e).0 in
        subst (λ z. HasTable s x (before ++ z)) a.2.2 (kinds-more s x before a.0 a.2.0 (among p a.0 a.1 before x i))
    among UnitPlan ks e before x i = absurd (Contains-none x i)
    among (AntiJoin p q c) ks e before x i = absurd (Contains-none x i)
    among (Empty ls) ks e before x i = absurd (Contains-none x i)
    among (Project es p) ks e before x i = absurd (Contains-none x i)
    among (UnionAll ps) ks e before x i = absurd (Contains-none x i)
    among (Distinct p) ks e before x i = absurd (Contains-none x i)

    among-beside : (ps : Plans) (kss : List Kinds) → kinds_of_each s ps ≡ Some kss → (before : Kinds) (x : StandingScan) → Contains (standing_beside s before ps) x → HasTable s x (before ++ side_by_side kss)
    among-beside Nil kss e before x i = absurd (Contains-none x i)
    among-beside (More p ps) kss e before x i =
        let a = first_given (plan_kinds s p) (kinds_of_each s ps) kss e in
        let is : kinds_or_none s p ≡ a.0 = ap or_no_kinds a.1 in
        subst (λ z. HasTable s x (before ++ side_by_side z)) a.2.2 (elim (Contains-append_cases (standing s before p) (standing_beside s (before ++ kinds_or_none s p) ps) x i) [
          | inl h ↦ kinds-more s x before a.0 (side_by_side a.2.0) (among p a.0 a.1 before x h)
          | inr h ↦ subst (HasTable s x) (append_assoc before a.0 (side_by_side a.2.0))
              (among-beside ps a.2.0 a.2.1 (before ++ a.0) x (subst (λ z. Contains (standing_beside s (before ++ z) ps) x) is h))
        ])

  -- among the kinds of the plan stand those of the table
  pub has-table : (p : Plan) (ks : Kinds) → plan_kinds s p ≡ Some ks → (x : StandingScan) → Contains (standing s [] p) x → HasTable s x ks
  has-table p ks e x i = among p ks e [] x i
