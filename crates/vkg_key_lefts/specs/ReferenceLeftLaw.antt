-- Its laws: no left row is without a row that it refers to.
use Rattle.std.proofs.Common.{◌≡◌, ◌∙◌, inl, inr, ℕ, ◌+◌, ◌*◌, ◌<◌, Bool, true, false, not, ◌&&◌, List, [], ◌∷◌, ◌++◌, append-nil, length, map, replicate, Option, Some, None, refl, sym, ap, subst, arith}
use Rattle.std.specs.Prelude.{nat_eq, slice_get}
use Rattle.std.specs.List.{Contains, filter, list_all, list_any}
use Rattle.std.specs.Option.{option_map_or}
use Rattle.std.proofs.Math.Nat.{mul_assoc}
use Rattle.std.proofs.lemmas.Bool.{cases_Bool, eqb-true, or_cases}
use Rattle.vkg_lists.proofs.Bags.{bag_same}
use Rattle.vkg_lists.proofs.Bools.{and_parts, not_true}
use Rattle.vkg_lists.proofs.Counts.{eq_same}
use Rattle.vkg_lists.proofs.Members.{all_of_each, each_of_all, filter_drops}
use Rattle.vkg_lists.proofs.Onto.{both_given}
use Rattle.vkg_lists.proofs.Positions.{Found, found, get_member}
use Rattle.vkg_lists.proofs.Results.{some_of, then_given}
use Rattle.vkg_lists.proofs.Tests.{nat_test}
use Rattle.vkg_lists.specs.Options.{joined, with_first}
use Rattle.vkg_cells.specs.declared.cell.Cell.TheVariants as cell
use Rattle.vkg_cells.specs.Order.{same}
use Rattle.vkg_schema.specs.declared.table.Reference.{Reference}
use Rattle.vkg_schema.specs.declared.table.Table.{Table}
use Rattle.vkg_schema.specs.Meets.{IsWellFormed, MeetsSchema, child_columns}
use Rattle.vkg_schema.specs.Rows.{Database, Row, agree, cell_at, equal_at, is_known_true, is_null, rows_of as table_rows}
use Rattle.vkg_schema.proofs.RowCells.{cell_at-right}
use Rattle.vkg_expr.specs.Expr.{Expr, Col, Same}
use Rattle.vkg_expr.specs.Logic.{conjuncts}
use Rattle.vkg_expr.specs.Value.{holds, value_of}
use Rattle.vkg_expr.proofs.Conjuncts.{holds-conjuncts}
use Rattle.vkg_expr.proofs.ReadBack.{truth_back}
use Rattle.vkg_plan.proofs.Pairs.{pairs-unit}
use Rattle.vkg_plan.proofs.RowsFit.{rows-fit}
use Rattle.vkg_plan.specs.Kinds.{Kinds, Tables, beside_all, checked, plan_kinds, width}
use Rattle.vkg_plan.specs.Plan.{Plan, Scan, Join, Left, plans}
use Rattle.vkg_plan.specs.Rows.{is_alone, left_pairs, pairs, rows_of}
use Rattle.vkg_rules.specs.declared.rewrite.Fell.TheVariants as fell
use Rattle.vkg_rules.specs.Measure.{weight}
use Rattle.vkg_rules.specs.Steps.{Falls, FallsAll, IsTyped, Keeps, KeepsAll, Step}
use Rattle.vkg_shapes.specs.TableRows.{tables_fit}
use Rattle.vkg_keys.specs.Keys.{is_full_column}
use Rattle.vkg_keys.specs.Ties.{is_column, ties}
use Rattle.vkg_keys.proofs.FullKeys.{full-known, some_true}
use Rattle.vkg_keys.proofs.Parents.{the_parent}
use Rattle.vkg_keys.proofs.Places.{wide-kinds}
use Rattle.vkg_keys.proofs.SameCells.{are_same, same-comm, same-known}
use Rattle.vkg_keys.proofs.TableRows.{row_fits, table_meets}
use Rattle.vkg_key_lefts.specs.declared.standing.StandingScan.{StandingScan}
use Rattle.vkg_key_lefts.specs.ReferenceLeft.{is_reference, reference_left, refers, ties_pair, with_right}
use Rattle.vkg_key_lefts.specs.Standing.{standing}
use Rattle.vkg_key_lefts.specs.StandingLaw.{HasRow, checked-given, has-row, known-inside, standing-cell}
use Rattle.vkg_key_lefts.specs.Tables.{are_full, references_of}

-- ---- a conjunct that says that two columns are equal holds where they are

column-is : (at : ℕ) (e : Expr) (row : Row) → is_column at e ≡ true → value_of e row ≡ cell_at row at
column-is at (Col n) row h = ap (cell_at row) (sym (eq_same nat_test at n h))
column-is at _ row h = cc

tie-true : (i j : ℕ) (d : Expr) (row : Row) → ties i j d ≡ true → are_same (cell_at row i) (cell_at row j) ≡ true → holds d row ≡ true
tie-true i j (Same a b) row t h = ap is_known_true (truth_back (same (value_of a row) (value_of b row))) ∙ elim (or_cases (is_column i a && is_column j b) (is_column j a && is_column i b) t) [
  | inl k ↦ let d = and_parts (is_column i a) (is_column j b) k in (λ z. are_same (column-is i a row d.0 z) (column-is j b row d.1 z)) ∙ h
  | inr k ↦ let d = and_parts (is_column j a) (is_column i b) k in
      (λ z. are_same (column-is j a row d.0 z) (column-is i b row d.1 z)) ∙ ap is_known_true (same-comm (cell_at row j) (cell_at row i)) ∙ h
]
tie-true i j _ row t h = cc

equal-cells : (r q : Row) (p : ℕ × ℕ) → equal_at r q p ≡ true → are_same (cell_at r p.0) (cell_at q p.1) ≡ true
unfolding equal_at
equal-cells r q p h = h

beside-two : (o r : Option Kinds) → beside_all (with_first o (with_first r (Some []))) ≡ joined o r
beside-two None r = refl
beside-two (Some ks) None = refl
beside-two (Some ks) (Some ls) = ap (λ m. Some (ks ++ m)) (append-nil ls)

-- ---- a left join of which no left row is alone

pairs-alone : (pass : Row → Bool) (n : ℕ) (ls rs : List Row) → ((l : Row) → Contains ls l → is_alone pass rs l ≡ false) → left_pairs pass n ls rs ≡ filter pass (pairs ls rs)
pairs-alone pass n ls rs h =
    ap (λ lone. filter pass (pairs ls rs) ++ map (λ l. l ++ replicate n cell.Null) lone) (filter_drops (is_alone pass rs) ls h)
    ∙ append-nil (filter pass (pairs ls rs))

pub met : (pass : Row → Bool) (rs : List Row) (l q : Row) → Contains rs q → pass (l ++ q) ≡ true → is_alone pass rs l ≡ false
met pass rs l q c t = elim (cases_Bool (is_alone pass rs l)) [
  | inl a ↦ let f : not (pass (l ++ q)) ≡ true = each_of_all (λ r. not (pass (l ++ r))) rs a q c in let g : not (pass (l ++ q)) ≡ false = ap not t in cc
  | inr f ↦ f
]

-- ---- a row of a child, and the row that it refers to, in a row of both

module _ (b n : ℕ) (pairs : List (ℕ × ℕ)) (row own q : Row) (e : agree pairs own q ≡ true) (left : (k : ℕ) → k < length own → cell_at row (b + k) ≡ cell_at own k) where
  -- the cells of such a pair are equal
  equal-pair : (z : ℕ × ℕ) → Contains pairs z → are_same (cell_at own z.0) (cell_at q z.1) ≡ true
  equal-pair z i = equal-cells own q z (each_of_all (equal_at own q) pairs e z i)

  -- so a conjunct holds that says so
  pub pair-holds : ((k : ℕ) → cell_at row (n + k) ≡ cell_at q k) → (d : Expr) → ties_pair b n pairs d ≡ true → holds d row ≡ true
  pair-holds right d t =
      let f = found (λ (z : ℕ × ℕ). ties (b + z.0) (n + z.1) d) pairs t in
      let k : Found (λ (z : ℕ × ℕ). ties (b + z.0) (n + z.1) d) pairs f.0 f.1 = f.2 in
      let eq = equal-pair f.1 (get_member pairs f.0 f.1 k.at) in
      let inside = known-inside own f.1.0 (same-known (cell_at own f.1.0) (cell_at q f.1.1) eq) in
      tie-true (b + f.1.0) (n + f.1.1) d row k.passes ((λ i. are_same (left f.1.0 inside i) (right f.1.1 i)) ∙ eq)

  -- and none of the child's columns is NULL
  pub child-known : (at : ℕ) → list_any (λ (z : ℕ × ℕ). nat_eq at (b + z.0)) pairs ≡ true → is_null (cell_at row at) ≡ false
  child-known at h =
      let f = found (λ (z : ℕ × ℕ). nat_eq at (b + z.0)) pairs h in
      let k : Found (λ (z : ℕ × ℕ). nat_eq at (b + z.0)) pairs f.0 f.1 = f.2 in
      let known = same-known (cell_at own f.1.0) (cell_at q f.1.1) (equal-pair f.1 (get_member pairs f.0 f.1 k.at)) in
      ap (λ i. is_null (cell_at row i)) (eqb-true at (b + f.1.0) k.passes)
      ∙ ap is_null (left f.1.0 (known-inside own f.1.0 known))
      ∙ not_true (is_null (cell_at own f.1.0)) known

its-reference : (s : Tables) (n : ℕ) (t : Table) (r : Reference) → slice_get s n ≡ Some t → Contains (references_of s n) r → Contains t.references r
its-reference s n t r is c = subst (λ rs. Contains rs r) (ap (λ o. option_map_or (λ (x : Table). x.references) o []) is) c

module _ (s : Tables) (form : IsWellFormed s) (p : Plan) (table : ℕ) (c : Expr) where
  -- the Scan and its foreign key
  record IsByReference : Type 0 where
    scan : StandingScan
    stands : Contains (standing s [] p) scan
    child : Table
    is_child : slice_get s scan.table ≡ Some child
    reference : Reference
    of_child : Contains child.references reference
    to : reference.table ≡ table
    full : list_all (is_full_column child) (child_columns reference) ≡ true
    all : list_all (ties_pair (length scan.before) (width s p) reference.pairs) (conjuncts c) ≡ true

  is-by_reference : refers s p table c ≡ true → IsByReference
  is-by_reference h =
      let f = found (λ (x : StandingScan). list_any (is_reference s table (width s p) c x) (references_of s x.table)) (standing s [] p) h in
      let k : Found (λ (x : StandingScan). list_any (is_reference s table (width s p) c x) (references_of s x.table)) (standing s [] p) f.0 f.1 = f.2 in
      let g = found (is_reference s table (width s p) c f.1) (references_of s f.1.table) k.passes in
      let l : Found (is_reference s table (width s p) c f.1) (references_of s f.1.table) g.0 g.1 = g.2 in
      let a = and_parts (nat_eq g.1.table table) (are_full s f.1.table (child_columns g.1) && list_all (ties_pair (length f.1.before) (width s p) g.1.pairs) (conjuncts c)) l.passes in
      let b = and_parts (are_full s f.1.table (child_columns g.1)) (list_all (ties_pair (length f.1.before) (width s p) g.1.pairs) (conjuncts c)) a.1 in
      let t = some_true (λ (t : Table). list_all (is_full_column t) (child_columns g.1)) (slice_get s f.1.table) b.0 in
      record {
        scan = f.1;
        stands = get_member (standing s [] p) f.0 f.1 k.at;
        child = t.0;
        is_child = t.1;
        reference = g.1;
        of_child = its-reference s f.1.table t.0 g.1 t.1 (get_member (references_of s f.1.table) g.0 g.1 l.at);
        to = eqb-true g.1.table table a.0;
        full = t.2;
        all = b.1;
      }

  module _ (u : IsByReference) (db : Database) (meets : MeetsSchema s db) (ks : Kinds) (of : plan_kinds s p ≡ Some ks) where
    -- the conjuncts hold of a row and of the row that it refers to
    each-holds : (l q : Row) → length l ≡ width s p → (r : HasRow db u.scan l) → agree u.reference.pairs r.own q ≡ true → (d : Expr) → ties_pair (length u.scan.before) (width s p) u.reference.pairs d ≡ true → holds d (l ++ q) ≡ true
    each-holds l q w r e d t =
        pair-holds (length u.scan.before) (width s p) u.reference.pairs (l ++ q) r.own q e (λ k b. standing-cell db u.scan l q r k b)
        (λ k. cell_at-right l q (width s p + k) k (ap (λ n. n + k) (sym w))) d t

    referring : (l : Row) → Contains (rows_of s p db) l → is_alone (holds c) (table_rows db table) l ≡ false
    referring l d =
        let r = has-row s db meets p ks of u.scan u.stands l d in
        let w = wide-kinds ks (width s p) (rows_of s p db) (ap (λ o. option_map_or length o 0) (sym of)) (rows-fit s db (tables_fit s db meets) p ks of) l d in
        let m = table_meets s db meets u.scan.table u.child u.is_child in
        let known = full-known u.child r.own (row_fits db u.child (table_rows db u.scan.table) m r.own r.member) (child_columns u.reference) u.full in
        let q = the_parent s db form meets u.scan.table u.child u.is_child u.reference u.of_child r.own r.member known in
        met (holds c) (table_rows db table) l q.0 (subst (λ t. Contains (table_rows db t) q.0) u.to q.1.member)
        (holds-conjuncts c (l ++ q.0) ∙ all_of_each (λ d. holds d (l ++ q.0)) (conjuncts c) (λ d i.
        each-holds l q.0 w r q.1.agrees d (each_of_all (ties_pair (length u.scan.before) (width s p) u.reference.pairs) (conjuncts c) u.all d i)))

  by_reference-keeps : IsTyped s (Left p (Scan table) c) → IsByReference → Keeps s (Left p (Scan table) c) (Join (plans (p ∷ Scan table ∷ [])) c)
  by_reference-keeps t u =
      let k = some_of (plan_kinds s (Left p (Scan table) c)) t in
      let a = both_given (plan_kinds s p) (plan_kinds s (Scan table)) k.0 (checked-given c (joined (plan_kinds s p) (plan_kinds s (Scan table))) k.0 k.1).0 in
      record {
        kinds = ap (checked c) (beside-two (plan_kinds s p) (plan_kinds s (Scan table)));
        rows = λ db m. bag_same (
            pairs-alone (holds c) (width s (Scan table)) (rows_of s p db) (table_rows db table) (referring u db m a.0 a.1)
            ∙ ap (λ z. filter (holds c) (pairs (rows_of s p db) z)) (sym (pairs-unit (table_rows db table))));
      }

  -- 16w + 1 falls to 12w
  by_reference-weight : 3 * (weight p * 4) < 4 * weight p * 4 + 1
  by_reference-weight = let four : 4 * weight p * 4 ≡ 4 * (weight p * 4) = mul_assoc 4 (weight p) 4 in omega (arith, four)

with-keeps : (s : Tables) → IsWellFormed s → (p : Plan) (c : Expr) (q : Plan) (x : Step) → IsTyped s (Left p q c) → with_right s p c q ≡ Some x → Keeps s (Left p q c) x.0
with-keeps s form p c (Scan table) x t e =
    let w = then_given (refers s p table c) (Join (plans (p ∷ Scan table ∷ [])) c, fell.Weight) x e in
    subst (λ (z : Step). Keeps s (Left p (Scan table) c) z.0) w.1 (by_reference-keeps s form p table c t (is-by_reference s form p table c w.0))
with-keeps s form p c _ x t e = cc

with-falls : (s : Tables) → IsWellFormed s → (p : Plan) (c : Expr) (q : Plan) (x : Step) → with_right s p c q ≡ Some x → Falls s (Left p q c) x
with-falls s form p c (Scan table) x e =
    let w = then_given (refers s p table c) (Join (plans (p ∷ Scan table ∷ [])) c, fell.Weight) x e in
    subst (Falls s (Left p (Scan table) c)) w.1 (by_reference-weight s form p table c)
with-falls s form p c _ x e = cc

pub reference_left-keeps : KeepsAll reference_left
reference_left-keeps s form (Left p q c) x t e = with-keeps s form p c q x t e
reference_left-keeps s form _ x t e = cc

pub reference_left-falls : FallsAll reference_left
reference_left-falls s form (Left p q c) x t e = with-falls s form p c q x e
reference_left-falls s form _ x t e = cc
