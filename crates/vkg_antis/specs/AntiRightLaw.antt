-- Its laws: a left row is with a right row that passes exactly where it was.
use Rattle.std.proofs.Common.{◌≡◌, ◌∙◌, inl, inr, ℕ, ◌+◌, ◌*◌, ◌<◌, Bool, true, false, not, List, [], ◌∷◌, ◌++◌, Some, length, map, append-nil, refl, sym, ap, subst, arith}
use Rattle.std.specs.Prelude.{Option, ◌&&◌, is_some, filter, if◌then◌else◌, option_and_then}
use Rattle.std.proofs.Math.Nat.{mul-lt-mul_of_pos_left}
use Rattle.std.proofs.lemmas.Option.{same_Some}
use Rattle.vkg_lists.proofs.Bags.{bag_same}
use Rattle.vkg_lists.proofs.Distinct.{Contains-distinct, Contains-from_distinct}
use Rattle.vkg_lists.proofs.Members.{each_from_recursion, filter_agree_on}
use Rattle.vkg_lists.proofs.Onto.{both_given, map_given}
use Rattle.vkg_lists.proofs.Results.{some_then}
use Rattle.vkg_lists.specs.Options.{joined}
use Rattle.vkg_lists.specs.Sets.{HasSameMembers, distinct}
use Rattle.vkg_cells.specs.declared.cell.SqlType.TheVariants as kind
use Rattle.vkg_schema.specs.Rows.{Row}
use Rattle.vkg_expr.specs.Expr.{Expr, exprs}
use Rattle.vkg_expr.specs.Logic.{and_then}
use Rattle.vkg_expr.specs.Strict.{moved, put}
use Rattle.vkg_expr.specs.Typing.{kinds_of}
use Rattle.vkg_expr.specs.Value.{holds, values_of}
use Rattle.vkg_columns.proofs.Conjuncts.{IsTruth, holds-and_then}
use Rattle.vkg_columns.proofs.MovedColumns.{moved_behind-holds}
use Rattle.vkg_columns.specs.Columns.{at_place}
use Rattle.vkg_plan.proofs.CellLemmas.{rows_apart}
use Rattle.vkg_plan.proofs.RowsFit.{checked_parts, rows-fit}
use Rattle.vkg_plan.specs.Kinds.{Kinds, Tables, checked, plan_kinds, width}
use Rattle.vkg_plan.specs.Plan.{Plan, AntiJoin, Distinct, Project, Select}
use Rattle.vkg_plan.specs.Rows.{alone_rows, is_alone, one_row, rows_of}
use Rattle.vkg_rules.specs.declared.rewrite.Fell.TheVariants as fell
use Rattle.vkg_rules.specs.EverywhereLaw.{or_given}
use Rattle.vkg_rules.specs.Measure.{weight}
use Rattle.vkg_rules.specs.Parts.{anti-kinds}
use Rattle.vkg_rules.specs.Steps.{Falls, FallsAll, IsTyped, Keeps, KeepsAll, Step}
use Rattle.vkg_rules.specs.Weights.{weight_positive}
use Rattle.vkg_shapes.specs.TableRows.{tables_fit}
use Rattle.vkg_unions.specs.MemberNodes.{list_all-members}
use Rattle.vkg_lifts.specs.InBetween.{AreWithin, between-kinds}
use Rattle.vkg_lifts.specs.LiftedKinds.{as_wide, project-kinds, wide-rows}
use Rattle.vkg_lifts.specs.LiftProjects.{Parts, in_between, parts_between}
use Rattle.vkg_lifts.specs.LiftProjectsLaw.{right-both}
use Rattle.vkg_lifts.specs.PutPlaces.{put_places-holds, put_places-kind}
use Rattle.vkg_lifts.specs.ThroughPairs.{AreOfWidth}
use Rattle.vkg_moves.specs.Conditions.{checked-truth}
use Rattle.vkg_moves.specs.MemberLaw.{right-kinds}
use Rattle.vkg_moves.specs.MergeSelects.{Part, part_behind}
use Rattle.vkg_antis.specs.AntiRight.{anti_right, by_distinct, by_project, by_select}

-- ---- rows without a pair that passes

-- of the right rows that pass d; e says the same of the pair
module _ (d c e both : Row → Bool) (l : Row) (says : (r : Row) → e (l ++ r) ≡ d r) (is_both : (row : Row) → both row ≡ (e row && c row)) where
  alone-selected : (rs : List Row) → is_alone c (filter d rs) l ≡ is_alone both rs l
  alone-selected [] = refl
  alone-selected (r ∷ rs) = of (alone-selected rs) (d r) ∙ ap (λ x. not x && is_alone both rs l) (sym (is_both (l ++ r) ∙ ap (λ x. x && c (l ++ r)) (says r)))
    where
      of : is_alone c (filter d rs) l ≡ is_alone both rs l → (b : Bool) → is_alone c (if b then r ∷ filter d rs else filter d rs) l ≡ (not (b && c (l ++ r)) && is_alone both rs l)
      of rest true = ap (λ x. not (c (l ++ r)) && x) rest
      of rest false = rest

-- of what f makes of right rows so wide
module _ (f : Row → Row) (c e : Row → Bool) (w : ℕ) (l : Row) (says : (r : Row) → length r ≡ w → c (l ++ f r) ≡ e (l ++ r)) where
  alone-projected : (rs : List Row) → AreOfWidth w rs → is_alone c (map f rs) l ≡ is_alone e rs l
  alone-projected [] h = refl
  alone-projected (r ∷ rs) h = λ i. not (says r h.0 i) && alone-projected rs h.1 i

same-distinct : (rs : List Row) → HasSameMembers (distinct one_row rs) rs
same-distinct rs = record { onto = λ x c. Contains-from_distinct one_row rs x c; back = λ x c. Contains-distinct rows_apart rs x c }

alone-distinct : (c : Row → Bool) (l : Row) (rs : List Row) → is_alone c (distinct one_row rs) l ≡ is_alone c rs l
alone-distinct c l rs = list_all-members (λ r. not (c (l ++ r))) (distinct one_row rs) rs (same-distinct rs)

-- ---- the laws

module _ (s : Tables) where
  -- a selection on the right
  selected-keeps : (p q : Plan) (c d : Expr) → IsTyped s (AntiJoin p (Select d q) c) → Keeps s (AntiJoin p (Select d q) c) (AntiJoin p q (and_then (moved (width s p) d) c))
  selected-keeps p q c d t =
      let o = joined (plan_kinds s p) (plan_kinds s (Select d q)) in
      let first = some_then (λ (ks : Kinds). plan_kinds s p) (checked c o) t in
      let a = checked_parts c o (ap is_some first.1) in
      let b = both_given (plan_kinds s p) (plan_kinds s (Select d q)) a.0 a.1 in
      let inner = moved (width s p) d in
      let other = as_wide s p b.0 b.1 in
      record {
        kinds = ap (option_and_then (λ (ks : Kinds). plan_kinds s p)) (right-kinds s p q c d (ap is_some first.1));
        rows = λ db m.
            let ls = rows_of s p db in
            let rs = rows_of s q db in
            let wide = wide-rows b.0 (width s p) ls other (rows-fit s db (tables_fit s db m) p b.0 b.1) in
            bag_same (filter_agree_on (is_alone (holds c) (filter (holds d) rs)) (is_alone (holds (and_then inner c)) rs) ls
            (λ l i. alone-selected (holds d) (holds c) (holds inner) (holds (and_then inner c)) l
            (λ r. moved_behind-holds l r (width s p) d (each_from_recursion (λ row. length row ≡ width s p) ls wide l i))
            (λ row. holds-and_then row inner c) rs));
      }

  -- a projection there
  projected-keeps : (es : List Expr) (p q : Plan) (c : Expr) → IsTyped s (AntiJoin p (Project es q) c) →
      Keeps s (AntiJoin p (Project es q) c) (AntiJoin p q (put (at_place (in_between (width s p) (width s q) 0 es)) c))
  projected-keeps es p q c t =
      let n = width s p in
      let w = width s q in
      let all = in_between n w 0 es in
      let o = joined (plan_kinds s p) (plan_kinds s (Project es q)) in
      let first = some_then (λ (ks : Kinds). plan_kinds s p) (checked c o) t in
      let a = checked_parts c o (ap is_some first.1) in
      let b = both_given (plan_kinds s p) (plan_kinds s (Project es q)) a.0 a.1 in
      let own = project-kinds s es q b.2.0 b.2.1 in
      let other = as_wide s p b.0 b.1 in
      let each : kinds_of (exprs all) (b.0 ++ own.below) ≡ Some a.0
      = ap (λ z. kinds_of (exprs all) (b.0 ++ z)) (sym (append-nil own.below)) ∙ between-kinds b.0 own.below [] n w 0 es b.2.0 other own.as_wide refl own.of_each
      ∙ ap (λ z. Some (b.0 ++ z)) (append-nil b.2.0) ∙ ap Some b.2.2 in
      let truth : IsTruth (b.0 ++ own.below) (put (at_place all) c) = put_places-kind all (b.0 ++ own.below) a.0 each c kind.Bool a.2 in
      let both = checked-truth (put (at_place all) c) (joined (plan_kinds s p) (plan_kinds s q)) (b.0 ++ own.below) (λ i. joined (b.1 i) (own.of_below i)) truth in
      record {
        kinds = ap (option_and_then (λ (ks : Kinds). plan_kinds s p)) both ∙ sym (anti-kinds s p (Project es q) c t);
        rows = λ db m.
            let fit = tables_fit s db m in
            let ls = rows_of s p db in
            let rs = rows_of s q db in
            let wide = wide-rows b.0 n ls other (rows-fit s db fit p b.0 b.1) in
            bag_same (filter_agree_on (is_alone (holds c) (map (values_of (exprs es)) rs)) (is_alone (holds (put (at_place all) c)) rs) ls
            (λ l i. alone-projected (values_of (exprs es)) (holds c) (holds (put (at_place all) c)) w l
            (λ r k. ap (holds c) (right-both n w es own.within l r (each_from_recursion (λ row. length row ≡ n) ls wide l i) k) ∙ sym (put_places-holds all (l ++ r) c))
            rs (wide-rows own.below w rs own.as_wide (rows-fit s db fit q own.below own.of_below))));
      }

  -- a distinct there
  distinct-keeps : (p q : Plan) (c : Expr) → Keeps s (AntiJoin p (Distinct q) c) (AntiJoin p q c)
  distinct-keeps p q c = record {
    kinds = refl;
    rows = λ db m. bag_same (filter_agree_on (is_alone (holds c) (distinct one_row (rows_of s q db))) (is_alone (holds c) (rows_of s q db)) (rows_of s p db) (λ l i. alone-distinct (holds c) l (rows_of s q db)));
  }

  -- ---- each of the three

  of_part : (p q : Plan) (c : Expr) (y : Part) → IsTyped s (AntiJoin p q c) → part_behind (width s p) q ≡ Some y → Keeps s (AntiJoin p q c) (AntiJoin p y.0 (and_then y.1 c))
  of_part p (Select d q) c y t e = subst (λ (z : Part). Keeps s (AntiJoin p (Select d q) c) (AntiJoin p z.0 (and_then z.1 c))) (same_Some (q, moved (width s p) d) y e) (selected-keeps p q c d t)
  of_part p _ c y t e = cc

  of_parts : (p q : Plan) (c : Expr) (y : Parts) → IsTyped s (AntiJoin p q c) → parts_between s (width s p) 0 q ≡ Some y → Keeps s (AntiJoin p q c) (AntiJoin p y.1 (put (at_place y.0) c))
  of_parts p (Project es q) c y t e =
      subst (λ (z : Parts). Keeps s (AntiJoin p (Project es q) c) (AntiJoin p z.1 (put (at_place z.0) c))) (same_Some (in_between (width s p) (width s q) 0 es, q) y e) (projected-keeps es p q c t)
  of_parts p _ c y t e = cc

  of_distinct : (p q : Plan) (c : Expr) (x : Step) → by_distinct p q c ≡ Some x → Keeps s (AntiJoin p q c) x.0
  of_distinct p (Distinct q) c x e = subst (λ (z : Step). Keeps s (AntiJoin p (Distinct q) c) z.0) (same_Some (AntiJoin p q c, fell.Weight) x e) (distinct-keeps p q c)
  of_distinct p _ c x e = cc

  keeps : (p q : Plan) (c : Expr) (x : Step) → IsTyped s (AntiJoin p q c) → anti_right s (AntiJoin p q c) ≡ Some x → Keeps s (AntiJoin p q c) x.0
  keeps p q c x t e = elim (or_given (by_select s p q c) _ x e) [
    | inl k ↦
        let m = map_given (λ (y : Part). (AntiJoin p y.0 (and_then y.1 c), fell.Weight)) (part_behind (width s p) q) x k in
        subst (λ (z : Step). Keeps s (AntiJoin p q c) z.0) m.2 (of_part p q c m.0 t m.1)
    | inr h ↦ elim (or_given (by_project s p q c) (by_distinct p q c) x h) [
      | inl k ↦
          let m = map_given (λ (y : Parts). (AntiJoin p y.1 (put (at_place y.0) c), fell.Weight)) (parts_between s (width s p) 0 q) x k in
          subst (λ (z : Step). Keeps s (AntiJoin p q c) z.0) m.2 (of_parts p q c m.0 t m.1)
      | inr k ↦ of_distinct p q c x k
    ]
  ]

  -- ---- the weight

  less-with : (p q r : Plan) (c d : Expr) → weight r < weight q → Falls s (AntiJoin p q c) (AntiJoin p r d, fell.Weight)
  less-with p q r c d h =
      let four : 0 < 4 * weight p = let k = weight_positive p in omega (arith, k) in
      let l : 4 * weight p * weight r < 4 * weight p * weight q = mul-lt-mul_of_pos_left h four in omega (arith, l)

  less-part : (p q : Plan) (c : Expr) (y : Part) (n : ℕ) → part_behind n q ≡ Some y → Falls s (AntiJoin p q c) (AntiJoin p y.0 (and_then y.1 c), fell.Weight)
  less-part p (Select d q) c y n e =
      let less : weight q < 2 * weight q = let k = weight_positive q in omega (arith, k) in
      subst (λ (z : Part). Falls s (AntiJoin p (Select d q) c) (AntiJoin p z.0 (and_then z.1 c), fell.Weight)) (same_Some (q, moved n d) y e) (less-with p (Select d q) q c (and_then (moved n d) c) less)
  less-part p _ c y n e = cc

  less-parts : (p q : Plan) (c : Expr) (y : Parts) (n : ℕ) → parts_between s n 0 q ≡ Some y → Falls s (AntiJoin p q c) (AntiJoin p y.1 (put (at_place y.0) c), fell.Weight)
  less-parts p (Project es q) c y n e =
      let less : weight q < 3 * weight q + 1 = omega arith in
      subst (λ (z : Parts). Falls s (AntiJoin p (Project es q) c) (AntiJoin p z.1 (put (at_place z.0) c), fell.Weight)) (same_Some (in_between n (width s q) 0 es, q) y e)
      (less-with p (Project es q) q c (put (at_place (in_between n (width s q) 0 es)) c) less)
  less-parts p _ c y n e = cc

  less-distinct : (p q : Plan) (c : Expr) (x : Step) → by_distinct p q c ≡ Some x → Falls s (AntiJoin p q c) x
  less-distinct p (Distinct q) c x e =
      let less : weight q < weight q + 1 = omega arith in
      subst (Falls s (AntiJoin p (Distinct q) c)) (same_Some (AntiJoin p q c, fell.Weight) x e) (less-with p (Distinct q) q c c less)
  less-distinct p _ c x e = cc

  falls : (p q : Plan) (c : Expr) (x : Step) → anti_right s (AntiJoin p q c) ≡ Some x → Falls s (AntiJoin p q c) x
  falls p q c x e = elim (or_given (by_select s p q c) _ x e) [
    | inl k ↦
        let m = map_given (λ (y : Part). (AntiJoin p y.0 (and_then y.1 c), fell.Weight)) (part_behind (width s p) q) x k in
        subst (Falls s (AntiJoin p q c)) m.2 (less-part p q c m.0 (width s p) m.1)
    | inr h ↦ elim (or_given (by_project s p q c) (by_distinct p q c) x h) [
      | inl k ↦
          let m = map_given (λ (y : Parts). (AntiJoin p y.1 (put (at_place y.0) c), fell.Weight)) (parts_between s (width s p) 0 q) x k in
          subst (Falls s (AntiJoin p q c)) m.2 (less-parts p q c m.0 (width s p) m.1)
      | inr k ↦ less-distinct p q c x k
    ]
  ]

pub anti_right-keeps : KeepsAll anti_right
anti_right-keeps s form (AntiJoin p q c) x t e = keeps s p q c x t e
anti_right-keeps s form _ x t e = cc

pub anti_right-falls : FallsAll anti_right
anti_right-falls s form (AntiJoin p q c) x t e = falls s p q c x e
anti_right-falls s form _ x t e = cc
