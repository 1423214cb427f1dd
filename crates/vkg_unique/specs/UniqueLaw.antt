-- The law of `is_unique`: over each database that meets the schema, no two rows of such a plan are equal.
use Rattle.std.proofs.Common.{◌≡◌, ◌∙◌, ℕ, Bool, true, false, List, [], length, drop, refl, ap}
use Rattle.std.specs.Prelude.{Some, slice_get}
use Rattle.std.specs.List.{AllByRecursion, IsDistinct, list_all, list_any}
use Rattle.std.specs.Option.{option_map_or}
use Rattle.std.proofs.lemmas.Option.{option_and_then_some}
use Rattle.vkg_lists.specs.Options.{joined}
use Rattle.vkg_lists.proofs.Bools.{and_parts, and_true}
use Rattle.vkg_lists.proofs.Distinct.{IsDistinct-cons, IsDistinct-distinct, IsDistinct-filter, IsDistinct-map, IsDistinct-nil}
use Rattle.vkg_lists.proofs.Members.{Contains-none}
use Rattle.vkg_lists.proofs.Onto.{both_given, first_given}
use Rattle.vkg_lists.proofs.Positions.{Found, any_from_member, found, get_member}
use Rattle.vkg_schema.specs.declared.table.Table.{Table}
use Rattle.vkg_schema.specs.Meets.{IsWellFormed, MeetsSchema}
use Rattle.vkg_schema.specs.Rows.{Database, rows_of as table_rows}
use Rattle.vkg_expr.specs.Expr.{exprs}
use Rattle.vkg_expr.specs.Typing.{kinds_of}
use Rattle.vkg_expr.specs.Value.{holds, values_of}
use Rattle.vkg_plan.specs.Kinds.{Kinds, Tables, beside_all, kinds_of_each, plan_kinds, width}
use Rattle.vkg_plan.specs.Plan.{Plan, Plans, Unit as UnitPlan, Empty, Scan, Select, Project, Join, Left, AntiJoin, UnionAll, Distinct, Nil, More}
use Rattle.vkg_plan.specs.Rows.{is_alone, one_row, product, rows_of, rows_of_each}
use Rattle.vkg_plan.proofs.CellLemmas.{rows_apart}
use Rattle.vkg_plan.proofs.RowsFit.{beside_is, first_checked-parts}
use Rattle.vkg_shapes.specs.UnionKinds.{AllKinds, given-union}
use Rattle.vkg_equalities.specs.TableColumns.{flag_at}
use Rattle.vkg_keys.specs.Keys.{is_full}
use Rattle.vkg_keys.proofs.FullKeys.{full-known, some_true}
use Rattle.vkg_keys.proofs.TableRows.{key_holds, row_fits, table_meets}
use Rattle.vkg_unique.specs.Apart.{are_apart}
use Rattle.vkg_unique.specs.ApartLaw.{plans-apart}
use Rattle.vkg_unique.specs.DistinctRows.{AreApart, IsApart, distinct-left_pairs, distinct-pairs, distinct-union, distinct_by_key}
use Rattle.vkg_unique.specs.Recovered.{are_keys_given, are_keys_given_in, is_key_given, recovered}
use Rattle.vkg_unique.specs.RecoveredLaw.{one_by_values, wide-plan}
use Rattle.vkg_unique.specs.SureLaw.{checked-given}
use Rattle.vkg_unique.specs.Unique.{are_all_apart, are_unique, has_full_key, is_apart_from, is_unique}

-- ---- below a projection whose expressions give back a key of each table the rows are unique

module _ (s : Tables) where
  mutual
    given-unique : (p : Plan) (flags : List Bool) → are_keys_given s flags p ≡ true → is_unique s p ≡ true
    given-unique UnitPlan flags h = refl
    given-unique (Empty ls) flags h = refl
    given-unique (Scan table) flags h =
        let t = some_true (λ (t : Table). list_any (is_key_given flags t) t.keys) (slice_get s table) h in
        let f = found (is_key_given flags t.0) t.0.keys t.2 in
        let k : Found (is_key_given flags t.0) t.0.keys f.0 f.1 = f.2 in
        let full = (and_parts (is_full t.0 f.1) (list_all (flag_at flags) f.1.columns) k.passes).0 in
        ap (λ o. option_map_or (λ (t : Table). list_any (is_full t) t.keys) o false) t.1 ∙ any_from_member (is_full t.0) t.0.keys f.1 (get_member t.0.keys f.0 f.1 k.at) full
    given-unique (Select c p) flags h = given-unique p flags h
    given-unique (Project es p) flags h = cc
    given-unique (Join ps c) flags h = given-unique_each ps flags h
    given-unique (Left p q c) flags h = cc
    given-unique (AntiJoin p q c) flags h = cc
    given-unique (UnionAll ps) flags h = cc
    given-unique (Distinct p) flags h = refl

    given-unique_each : (ps : Plans) (flags : List Bool) → are_keys_given_in s flags ps ≡ true → are_unique s ps ≡ true
    given-unique_each Nil flags h = refl
    given-unique_each (More p ps) flags h =
        let b = and_parts (are_keys_given s flags p) (are_keys_given_in s (drop (width s p) flags) ps) h in
        and_true (is_unique s p) (are_unique s ps) (given-unique p flags b.0) (given-unique_each ps (drop (width s p) flags) b.1)

-- ---- rows of plans

module _ (s : Tables) (db : Database) (form : IsWellFormed s) (meets : MeetsSchema s db) where
  unique-scan : (table : ℕ) → has_full_key s table ≡ true → IsDistinct one_row (table_rows db table)
  unique-scan table h =
      let t = some_true (λ (t : Table). list_any (is_full t) t.keys) (slice_get s table) h in
      let m = table_meets s db meets table t.0 t.1 in
      let f = found (is_full t.0) t.0.keys t.2 in
      let k : Found (is_full t.0) t.0.keys f.0 f.1 = f.2 in
      distinct_by_key f.1 (table_rows db table)
      (key_holds db t.0 (table_rows db table) m f.1 (get_member t.0.keys f.0 f.1 k.at))
      (λ r c. full-known t.0 r (row_fits db t.0 (table_rows db table) m r c) f.1.columns k.passes)

  apart-from : (p : Plan) (ks : Kinds) (qs : Plans) → plan_kinds s p ≡ Some ks → AllKinds s ks qs → is_apart_from s p qs ≡ true → AllByRecursion (IsApart (rows_of s p db)) (rows_of_each s qs db)
  apart-from p ks Nil e a h = tt
  apart-from p ks (More q qs) e a h =
      let b = and_parts (are_apart s p q) (is_apart_from s p qs) h in
      (plans-apart s db form meets p q ks e a.0 b.0, apart-from p ks qs e a.1 b.1)

  mutual
    pub unique-rows : (p : Plan) (ks : Kinds) → plan_kinds s p ≡ Some ks → is_unique s p ≡ true → IsDistinct one_row (rows_of s p db)
    unique-rows UnitPlan ks e u = IsDistinct-cons one_row [] [] (λ y c. absurd (Contains-none y c)) (IsDistinct-nil one_row)
    unique-rows (Empty ls) ks e u = IsDistinct-nil one_row
    unique-rows (Scan table) ks e u = unique-scan table u
    unique-rows (Select c p) ks e u = IsDistinct-filter one_row (holds c) (rows_of s p db) (unique-rows p ks (checked-given c (plan_kinds s p) ks e).0 u)
    unique-rows (Project es p) ks e u = option_and_then_some (kinds_of (exprs es)) (plan_kinds s p) ks e (λ ls i j.
        IsDistinct-map rows_apart rows_apart (values_of (exprs es)) (rows_of s p db)
        (unique-rows p ls i (given-unique s p (recovered s es p) u))
        (λ z w c d same. one_by_values s db meets form es p ls i u z w c d same))
    unique-rows (Join ps c) ks e u =
        let a = beside_is (kinds_of_each s ps) ks (checked-given c (beside_all (kinds_of_each s ps)) ks e).0 in
        IsDistinct-filter one_row (holds c) (product (rows_of_each s ps db)) (unique-product ps a.0 a.1 u)
    unique-rows (Left p q c) ks e u =
        let a = both_given (plan_kinds s p) (plan_kinds s q) ks (checked-given c (joined (plan_kinds s p) (plan_kinds s q)) ks e).0 in
        let b = and_parts (is_unique s p) (is_unique s q) u in
        distinct-left_pairs (length a.0) (rows_of s p db) (rows_of s q db) (wide-plan s db meets p a.0 a.1) (holds c) (width s q) (unique-rows p a.0 a.1 b.0) (unique-rows q a.2.0 a.2.1 b.1)
    unique-rows (AntiJoin p q c) ks e u = IsDistinct-filter one_row (is_alone (holds c) (rows_of s q db)) (rows_of s p db) (unique-rows p ks (first_checked-parts c (plan_kinds s p) (plan_kinds s q) ks e).first u)
    unique-rows (UnionAll ps) ks e u =
        let b = and_parts (are_unique s ps) (are_all_apart s ps) u in
        distinct-union (rows_of_each s ps db) (unique-members ps ks (given-union s ks ps e) b.0 b.1)
    unique-rows (Distinct p) ks e u = IsDistinct-distinct one_row (rows_of s p db)

    unique-product : (ps : Plans) (kss : List Kinds) → kinds_of_each s ps ≡ Some kss → are_unique s ps ≡ true → IsDistinct one_row (product (rows_of_each s ps db))
    unique-product Nil kss e u = IsDistinct-cons one_row [] [] (λ y c. absurd (Contains-none y c)) (IsDistinct-nil one_row)
    unique-product (More p ps) kss e u =
        let a = first_given (plan_kinds s p) (kinds_of_each s ps) kss e in
        let b = and_parts (is_unique s p) (are_unique s ps) u in
        distinct-pairs (length a.0) (rows_of s p db) (product (rows_of_each s ps db)) (wide-plan s db meets p a.0 a.1) (unique-rows p a.0 a.1 b.0) (unique-product ps a.2.0 a.2.1 b.1)

    unique-members : (ps : Plans) (ks : Kinds) → AllKinds s ks ps → are_unique s ps ≡ true → are_all_apart s ps ≡ true → AreApart (rows_of_each s ps db)
    unique-members Nil ks a u h = tt
    unique-members (More p ps) ks a u h =
        let b = and_parts (is_unique s p) (are_unique s ps) u in
        let d = and_parts (is_apart_from s p ps) (are_all_apart s ps) h in
        (unique-rows p ks a.0 b.0, apart-from p ks ps a.0 a.1 d.0, unique-members ps ks a.1 b.1 d.1)
