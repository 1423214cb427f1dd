-- Its laws: the rows with NULLs for the right row do not pass.
use Rattle.std.proofs.Common.{◌≡◌, ◌∙◌, inl, inr, ℕ, ◌+◌, ◌*◌, ◌<◌, ◌++◌, Bool, true, false, ◌&&◌, List, [], ◌∷◌, append-nil, map, Option, Some, None, refl, sym, ap, subst, arith}
use Rattle.std.specs.List.{AllByRecursion, filter, list_all, list_any}
use Rattle.std.proofs.Math.Bool.{and-false}
use Rattle.std.proofs.Math.Nat.{mul_assoc}
use Rattle.std.proofs.lemmas.Bool.{or_cases}
use Rattle.std.proofs.lemmas.List.Elements.{filter-append}
use Rattle.vkg_lists.proofs.Bags.{bag_same}
use Rattle.vkg_lists.proofs.Members.{Contains-from_filter, each_from_recursion, filter_drops}
use Rattle.vkg_lists.proofs.Onto.{both_given}
use Rattle.vkg_lists.proofs.Results.{then_given}
use Rattle.vkg_lists.proofs.Walks.{filter-map}
use Rattle.vkg_lists.specs.Options.{joined, with_first}
use Rattle.vkg_cells.specs.declared.cell.Cell.{Cell}
use Rattle.vkg_cells.specs.declared.cell.Cell.TheVariants as cell
use Rattle.vkg_cells.specs.Order.{same}
use Rattle.vkg_values.specs.Logic.{not3}
use Rattle.vkg_schema.specs.Rows.{Row, is_known_true, is_null}
use Rattle.vkg_expr.specs.Expr.{Expr, IsNull, Not, Same}
use Rattle.vkg_expr.specs.Laws.{HasKinds}
use Rattle.vkg_expr.specs.Logic.{conjuncts}
use Rattle.vkg_expr.specs.Value.{holds, truth_cell, truth_of, value_of}
use Rattle.vkg_columns.proofs.Conjuncts.{holds-conjuncts}
use Rattle.vkg_plan.proofs.Pairs.{pairs-unit}
use Rattle.vkg_plan.proofs.RowsFit.{checked_parts, rows-fit}
use Rattle.vkg_plan.specs.Kinds.{Kinds, Tables, beside_all, checked, plan_kinds, width}
use Rattle.vkg_plan.specs.Plan.{Plan, Select, Join, Left, Nil, More}
use Rattle.vkg_plan.specs.Rows.{is_alone, left_pairs, pairs, rows_of}
use Rattle.vkg_rules.specs.declared.rewrite.Fell.TheVariants as fell
use Rattle.vkg_rules.specs.Measure.{weight}
use Rattle.vkg_rules.specs.Steps.{Falls, FallsAll, IsTyped, Keeps, KeepsAll, Step}
use Rattle.vkg_shapes.specs.PartsLaw.{wide}
use Rattle.vkg_joins.specs.TableRows.{tables_fit}
use Rattle.vkg_moves.specs.Columns.{is_null_behind}
use Rattle.vkg_moves.specs.ColumnsLaw.{AreNullBehind, null-behind, padded-nulls}
use Rattle.vkg_moves.specs.Conditions.{checked-given}
use Rattle.vkg_moves.specs.LeftRows.{padded}
use Rattle.vkg_moves.specs.LeftToJoin.{fails_on_nulls, finds_null, left_to_join, over_left}
use Rattle.vkg_moves.specs.SelectLaw.{kinds-wide}
use Rattle.vkg_moves.specs.Unknown.{is_unknown_behind}
use Rattle.vkg_moves.specs.UnknownLaw.{unknown-fails}

-- ---- conjuncts on a row whose cells behind the first n are NULL

same-null : (c : Cell) → same c cell.Null ≡ None
same-null cell.Null = refl
same-null (cell.Text s) = refl
same-null (cell.Int s) = refl
same-null (cell.Dec s) = refl
same-null (cell.Bool b) = refl
same-null (cell.Date s) = refl
same-null (cell.Stamp s) = refl
same-null (cell.Bin s) = refl
same-null (cell.Time s) = refl
same-null (cell.Term t) = refl

module _ (n : ℕ) (row : Row) (nulls : AreNullBehind n row) where
  not-found : (e : Expr) → finds_null n e ≡ true → holds (Not e) row ≡ false
  not-found (IsNull e) h = ap (λ v. is_known_true (truth_of (truth_cell (not3 (truth_of (cell.Bool (is_null v))))))) (null-behind n row nulls e h)
  not-found _ h = cc

  fails : (c : Expr) → fails_on_nulls n c ≡ true → holds c row ≡ false
  fails (Not e) h = elim (or_cases (finds_null n e) (is_unknown_behind n e) h) [ inl i ↦ not-found e i | inr i ↦ unknown-fails n row nulls (Not e) i ]
  fails (Same a b) h = elim (or_cases (is_null_behind n a) (is_null_behind n b) h) [
    | inl i ↦ ap (λ v. is_known_true (truth_of (truth_cell (same v (value_of b row))))) (null-behind n row nulls a i)
    | inr i ↦
        ap (λ v. is_known_true (truth_of (truth_cell (same (value_of a row) v)))) (null-behind n row nulls b i)
        ∙ ap (λ o. is_known_true (truth_of (truth_cell o))) (same-null (value_of a row))
  ]
  fails c h = unknown-fails n row nulls c h

  one-fails : (cs : List Expr) → list_any (fails_on_nulls n) cs ≡ true → list_all (λ c. holds c row) cs ≡ false
  one-fails [] h = cc
  one-fails (c ∷ cs) h = elim (or_cases (fails_on_nulls n c) (list_any (fails_on_nulls n) cs) h) [
    | inl i ↦ ap (λ b. b && list_all (λ d. holds d row) cs) (fails c i)
    | inr i ↦ ap (λ b. holds c row && b) (one-fails cs i) ∙ and-false (holds c row)
  ]

  all-fails : (c : Expr) → list_any (fails_on_nulls n) (conjuncts c) ≡ true → holds c row ≡ false
  all-fails c h = holds-conjuncts c row ∙ one-fails (conjuncts c) h

-- ---- the laws

-- of a left join no row with NULLs passes
pairs-only : (P : Row → Type 0) (test pass : Row → Bool) (n : ℕ) → ((l : Row) → P l → test (padded n l) ≡ false) → (ls rs : List Row) → AllByRecursion P ls →
    filter test (left_pairs pass n ls rs) ≡ filter test (filter pass (pairs ls rs))
pairs-only P test pass n none ls rs all =
    let alone = is_alone pass rs in
    let lone : filter test (map (padded n) (filter alone ls)) ≡ [] =
    filter-map test (padded n) (filter alone ls)
    ∙ ap (map (padded n)) (filter_drops (λ l. test (padded n l)) (filter alone ls) (λ l i. none l (each_from_recursion P ls all l (Contains-from_filter alone ls l i).0))) in
    filter-append test (filter pass (pairs ls rs)) (map (padded n) (filter alone ls))
    ∙ ap (λ m. filter test (filter pass (pairs ls rs)) ++ m) lone
    ∙ append-nil (filter test (filter pass (pairs ls rs)))

beside-two : (o r : Option Kinds) → beside_all (with_first o (with_first r (Some []))) ≡ joined o r
beside-two None r = refl
beside-two (Some ks) None = refl
beside-two (Some ks) (Some ls) = ap (λ m. Some (ks ++ m)) (append-nil ls)

module _ (s : Tables) where
  join-keeps : (c d : Expr) (p q : Plan) → IsTyped s (Select c (Left p q d)) → list_any (fails_on_nulls (width s p)) (conjuncts c) ≡ true → Keeps s (Select c (Left p q d)) (Select c (Join (More p (More q Nil)) d))
  join-keeps c d p q t h =
      let a = checked_parts c (checked d (joined (plan_kinds s p) (plan_kinds s q))) t in
      let b = both_given (plan_kinds s p) (plan_kinds s q) a.0 (checked-given d (joined (plan_kinds s p) (plan_kinds s q)) a.0 a.1).0 in
      record {
        kinds = ap (λ o. checked c (checked d o)) (beside-two (plan_kinds s p) (plan_kinds s q));
        rows = λ db m.
            let ls = rows_of s p db in
            let rs = rows_of s q db in
            bag_same (
            pairs-only (HasKinds b.0) (holds c) (holds d) (width s q)
            (λ l k. all-fails (width s p) (padded (width s q) l) (padded-nulls l (width s p) (width s q) (sym (wide b.0 l k) ∙ kinds-wide s p b.0 b.1)) c h)
            ls rs (rows-fit s db (tables_fit s db m) p b.0 b.1)
            ∙ ap (λ z. filter (holds c) (filter (holds d) (pairs ls z))) (sym (pairs-unit rs)));
      }

  over-keeps : (c : Expr) (p : Plan) (x : Step) → IsTyped s (Select c p) → over_left s c p ≡ Some x → Keeps s (Select c p) x.0
  over-keeps c (Left p q d) x t e =
      let w = then_given (list_any (fails_on_nulls (width s p)) (conjuncts c)) (Select c (Join (More p (More q Nil)) d), fell.Weight) x e in
      subst (λ (z : Step). Keeps s (Select c (Left p q d)) z.0) w.1 (join-keeps c d p q t w.0)
  over-keeps c _ x t e = cc

  -- 8ab + 2 falls to 6ab
  join-weight : (p q : Plan) → 2 * (3 * (weight p * (weight q * 1))) < 2 * (4 * weight p * weight q + 1)
  join-weight p q =
      let one : weight q * 1 ≡ weight q = omega arith in
      let e : weight p * (weight q * 1) ≡ weight p * weight q = ap (λ n. weight p * n) one in
      let four : 4 * weight p * weight q ≡ 4 * (weight p * weight q) = mul_assoc 4 (weight p) (weight q) in
      omega (arith, e, four)

  over-falls : (c : Expr) (p : Plan) (x : Step) → over_left s c p ≡ Some x → Falls s (Select c p) x
  over-falls c (Left p q d) x e =
      let w = then_given (list_any (fails_on_nulls (width s p)) (conjuncts c)) (Select c (Join (More p (More q Nil)) d), fell.Weight) x e in
      subst (Falls s (Select c (Left p q d))) w.1 (join-weight p q)
  over-falls c _ x e = cc

pub left_to_join-keeps : KeepsAll left_to_join
left_to_join-keeps s form (Select c p) x t e = over-keeps s c p x t e
left_to_join-keeps s form _ x t e = cc

pub left_to_join-falls : FallsAll left_to_join
left_to_join-falls s form (Select c p) x t e = over-falls s c p x e
left_to_join-falls s form _ x t e = cc
