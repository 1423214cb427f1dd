-- Its laws: the expressions give of each row below what the Project gave, with the columns beside it.
use Rattle.std.proofs.Common.{◌≡◌, ◌∙◌, inl, inr, ℕ, ◌+◌, ◌*◌, ◌<◌, true, List, [], ◌∷◌, ◌++◌, append-nil, length, map, Some, refl, sym, ap, subst, arith}
use Rattle.std.specs.Prelude.{option_map, replicate}
use Rattle.std.specs.List.{filter, list_all}
use Rattle.std.proofs.lemmas.List.{length-replicate, map-id}
use Rattle.std.proofs.lemmas.Option.{same_Some}
use Rattle.vkg_lists.proofs.Bags.{bag_same}
use Rattle.vkg_lists.proofs.Onto.{both_given, map_given}
use Rattle.vkg_lists.specs.Options.{joined}
use Rattle.vkg_cells.specs.declared.cell.Cell.TheVariants as cell
use Rattle.vkg_schema.specs.Rows.{Row}
use Rattle.vkg_expr.specs.Expr.{Expr, exprs}
use Rattle.vkg_expr.specs.Strict.{nulls_on_null, put}
use Rattle.vkg_expr.specs.Typing.{kinds_of}
use Rattle.vkg_expr.specs.Value.{holds, values_of}
use Rattle.vkg_columns.specs.Columns.{at_place}
use Rattle.vkg_plan.proofs.Pairs.{unit-pairs}
use Rattle.vkg_plan.proofs.RowsFit.{checked_parts, rows-fit}
use Rattle.vkg_plan.specs.Kinds.{Tables, beside_all, kinds_of_each, plan_kinds, width}
use Rattle.vkg_plan.specs.Plan.{Plan, Plans, Select, Project, Join, Left}
use Rattle.vkg_plan.specs.Rows.{left_pairs, product, rows_of, rows_of_each}
use Rattle.vkg_rules.specs.EverywhereLaw.{or_given}
use Rattle.vkg_rules.specs.InNodes.{IsLawful}
use Rattle.vkg_rules.specs.Measure.{weight}
use Rattle.vkg_rules.specs.Steps.{FallsAll, IsTyped, KeepsAll, Step}
use Rattle.vkg_rules.specs.Weights.{weight_positive}
use Rattle.vkg_shapes.specs.PartsLaw.{if_given}
use Rattle.vkg_shapes.specs.TableRows.{tables_fit}
use Rattle.vkg_lifts.specs.InBetween.{AreWithin, between-kinds, between-values, kinds-long}
use Rattle.vkg_lifts.specs.LiftedKinds.{above-kinds, as_wide, project-kinds, wide-rows}
use Rattle.vkg_lifts.specs.LiftedMembers.{is-lifted, left-both, sides-of}
use Rattle.vkg_lifts.specs.LiftProjects.{Lifted, Parts, above, in_between, keeps_nulls, lift_projects, lifted, over_join, over_left_side, over_right_side, over_select, parts_between}
use Rattle.vkg_lifts.specs.NullRows.{null-values}
use Rattle.vkg_lifts.specs.PutPlaces.{filter-projected, put_places-holds}
use Rattle.vkg_lifts.specs.ThroughPairs.{AreOfWidth, left-through}

-- ---- the rows of a Left over a Project

left-rows : (w k : ℕ) (es : List Expr) (c : Expr) (ls rs : List Row) → AreWithin w es → AreOfWidth w ls → AreOfWidth k rs →
    left_pairs (holds c) k (map (values_of (exprs es)) ls) rs ≡ map (values_of (exprs (in_between 0 w k es))) (left_pairs (holds (put (at_place (in_between 0 w k es)) c)) k ls rs)
left-rows w k es c ls rs within ll lr =
    let all = in_between 0 w k es in
    ap (left_pairs (holds c) k (map (values_of (exprs es)) ls)) (sym (map-id rs))
    ∙ left-through (values_of (exprs es)) (λ r. r) (values_of (exprs all)) w k (left-both w k es within)
    (holds c) (holds (put (at_place all) c)) (λ row. sym (put_places-holds all row c))
    k k (λ l e. left-both w k es within l (replicate k cell.Null) e (length-replicate k cell.Null)) ls rs ll lr

-- the expressions with a row before them
pub right-both : (n w : ℕ) (es : List Expr) → AreWithin w es → (l r : Row) → length l ≡ n → length r ≡ w → l ++ values_of (exprs es) r ≡ values_of (exprs (in_between n w 0 es)) (l ++ r)
right-both n w es within l r ll lr =
    ap (λ z. l ++ z) (sym (append-nil (values_of (exprs es) r)))
    ∙ sym (between-values l r [] n w 0 es ll lr refl within)
    ∙ ap (λ z. values_of (exprs (in_between n w 0 es)) (l ++ z)) (append-nil r)

-- where each is NULL on a row of NULLs
right-rows : (n w : ℕ) (es : List Expr) (c : Expr) (ls rs : List Row) → AreWithin w es → list_all nulls_on_null es ≡ true → AreOfWidth n ls → AreOfWidth w rs →
    left_pairs (holds c) (length es) ls (map (values_of (exprs es)) rs) ≡ map (values_of (exprs (in_between n w 0 es))) (left_pairs (holds (put (at_place (in_between n w 0 es)) c)) w ls rs)
right-rows n w es c ls rs within strict ll lr =
    let all = in_between n w 0 es in
    let pad : (l : Row) → length l ≡ n → l ++ replicate (length es) cell.Null ≡ values_of (exprs all) (l ++ replicate w cell.Null)
    = λ l e. ap (λ z. l ++ z) (sym (null-values w es strict)) ∙ right-both n w es within l (replicate w cell.Null) e (length-replicate w cell.Null) in
    ap (λ zs. left_pairs (holds c) (length es) zs (map (values_of (exprs es)) rs)) (sym (map-id ls))
    ∙ left-through (λ l. l) (values_of (exprs es)) (values_of (exprs all)) n w (right-both n w es within)
    (holds c) (holds (put (at_place all) c)) (λ row. sym (put_places-holds all row c))
    (length es) w pad ls rs ll lr

-- ---- weights

left_more : (a b : ℕ) → 0 < b → 3 * (4 * a * b + 1) + 1 < 4 * (3 * a + 1) * b + 1
left_more a b h = omega (arith, h)

right_more : (a b : ℕ) → 0 < a → 3 * (4 * a * b + 1) + 1 < 4 * a * (3 * b + 1) + 1
right_more a b h = omega (arith, h)

-- ---- both laws of each step

module _ (s : Tables) where
  select-lawful : (c : Expr) (es : List Expr) (p : Plan) → IsTyped s (Select c (Project es p)) → IsLawful s (Select c (Project es p)) (above es (λ d. Select d p) c)
  select-lawful c es p t =
      let a = checked_parts c (plan_kinds s (Project es p)) t in
      let b = project-kinds s es p a.0 a.1 in
      record {
        kinds = above-kinds es c (plan_kinds s (Project es p)) (plan_kinds s p) b.below a.0 a.1 a.2 b.of_below b.of_each;
        rows = λ db m. bag_same (filter-projected es c (rows_of s p db));
        falls = omega arith;
      }

  of_select : (c : Expr) (p : Plan) (x : Step) → IsTyped s (Select c p) → over_select c p ≡ Some x → IsLawful s (Select c p) x
  of_select c (Project es p) x t e = subst (IsLawful s (Select c (Project es p))) (same_Some (above es (λ d. Select d p) c) x e) (select-lawful c es p t)
  of_select c _ x t e = cc

  join-lawful : (ps : Plans) (c : Expr) (y : Lifted) → IsTyped s (Join ps c) → lifted s 0 ps ≡ Some y → IsLawful s (Join ps c) (above y.0 (Join y.1) c)
  join-lawful ps c y t e =
      let d = is-lifted s 0 ps y e in
      let l = d.less in
      let a = checked_parts c (beside_all (kinds_of_each s ps)) t in
      let of_all = sides-of (kinds_of_each s ps) a.0 a.1 in
      let k = d.kinds [] a.0 refl of_all in
      record {
        kinds = above-kinds y.0 c (beside_all (kinds_of_each s ps)) (beside_all (kinds_of_each s y.1)) k.0 a.0 a.1 a.2 k.1 k.2;
        rows = λ db m.
            let old = product (rows_of_each s ps db) in
            let new = product (rows_of_each s y.1 db) in
            bag_same (
            ap (filter (holds c)) (sym (unit-pairs old) ∙ d.rows db (tables_fit s db m) [] a.0 refl of_all ([] ∷ []) (tt, tt) ∙ ap (map (values_of (exprs y.0))) (unit-pairs new))
            ∙ filter-projected y.0 c new);
        falls = omega (arith, l);
      }

  of_join : (ps : Plans) (c : Expr) (x : Step) → IsTyped s (Join ps c) → over_join s ps c ≡ Some x → IsLawful s (Join ps c) x
  of_join ps c x t e =
      let m = map_given (λ (y : Lifted). above y.0 (Join y.1) c) (lifted s 0 ps) x e in
      subst (IsLawful s (Join ps c)) m.2 (join-lawful ps c m.0 t m.1)

  left-lawful : (es : List Expr) (p q : Plan) (c : Expr) → IsTyped s (Left (Project es p) q c) → IsLawful s (Left (Project es p) q c) (above (in_between 0 (width s p) (width s q) es) (Left p q) c)
  left-lawful es p q c t =
      let w = width s p in
      let k = width s q in
      let a = checked_parts c (joined (plan_kinds s (Project es p)) (plan_kinds s q)) t in
      let b = both_given (plan_kinds s (Project es p)) (plan_kinds s q) a.0 a.1 in
      let own = project-kinds s es p b.0 b.1 in
      let other = as_wide s q b.2.0 b.2.1 in
      record {
        kinds = above-kinds (in_between 0 w k es) c (joined (plan_kinds s (Project es p)) (plan_kinds s q)) (joined (plan_kinds s p) (plan_kinds s q)) (own.below ++ b.2.0) a.0 a.1 a.2
            (λ i. joined (own.of_below i) (b.2.1 i))
            (between-kinds [] own.below b.2.0 0 w k es b.0 refl own.as_wide other own.of_each ∙ ap Some b.2.2);
        rows = λ db m.
            let fit = tables_fit s db m in
            bag_same (left-rows w k es c (rows_of s p db) (rows_of s q db) own.within
            (wide-rows own.below w (rows_of s p db) own.as_wide (rows-fit s db fit p own.below own.of_below))
            (wide-rows b.2.0 k (rows_of s q db) other (rows-fit s db fit q b.2.0 b.2.1)));
        falls = left_more (weight p) (weight q) (weight_positive q);
      }

  left-given : (p q : Plan) (c : Expr) (y : Parts) → IsTyped s (Left p q c) → parts_between s 0 (width s q) p ≡ Some y → IsLawful s (Left p q c) (above y.0 (Left y.1 q) c)
  left-given (Project es p) q c y t e =
      subst (λ (z : Parts). IsLawful s (Left (Project es p) q c) (above z.0 (Left z.1 q) c)) (same_Some (in_between 0 (width s p) (width s q) es, p) y e) (left-lawful es p q c t)
  left-given _ q c y t e = cc

  of_left : (p q : Plan) (c : Expr) (x : Step) → IsTyped s (Left p q c) → over_left_side s p q c ≡ Some x → IsLawful s (Left p q c) x
  of_left p q c x t e =
      let m = map_given (λ (y : Parts). above y.0 (Left y.1 q) c) (parts_between s 0 (width s q) p) x e in
      subst (IsLawful s (Left p q c)) m.2 (left-given p q c m.0 t m.1)

  right-lawful : (es : List Expr) (p q : Plan) (c : Expr) → list_all nulls_on_null es ≡ true → IsTyped s (Left p (Project es q) c) → IsLawful s (Left p (Project es q) c) (above (in_between (width s p) (width s q) 0 es) (Left p q) c)
  right-lawful es p q c strict t =
      let n = width s p in
      let w = width s q in
      let all = in_between n w 0 es in
      let a = checked_parts c (joined (plan_kinds s p) (plan_kinds s (Project es q))) t in
      let b = both_given (plan_kinds s p) (plan_kinds s (Project es q)) a.0 a.1 in
      let own = project-kinds s es q b.2.0 b.2.1 in
      let other = as_wide s p b.0 b.1 in
      let many : width s (Project es q) ≡ length es = sym (as_wide s (Project es q) b.2.0 b.2.1) ∙ kinds-long es own.below b.2.0 own.of_each in
      record {
        kinds = above-kinds all c (joined (plan_kinds s p) (plan_kinds s (Project es q))) (joined (plan_kinds s p) (plan_kinds s q)) (b.0 ++ own.below) a.0 a.1 a.2
            (λ i. joined (b.1 i) (own.of_below i))
            (ap (λ z. kinds_of (exprs all) (b.0 ++ z)) (sym (append-nil own.below))
            ∙ between-kinds b.0 own.below [] n w 0 es b.2.0 other own.as_wide refl own.of_each
            ∙ ap (λ z. Some (b.0 ++ z)) (append-nil b.2.0) ∙ ap Some b.2.2);
        rows = λ db m.
            let fit = tables_fit s db m in
            bag_same (
            ap (λ z. left_pairs (holds c) z (rows_of s p db) (map (values_of (exprs es)) (rows_of s q db))) many
            ∙ right-rows n w es c (rows_of s p db) (rows_of s q db) own.within strict
            (wide-rows b.0 n (rows_of s p db) other (rows-fit s db fit p b.0 b.1))
            (wide-rows own.below w (rows_of s q db) own.as_wide (rows-fit s db fit q own.below own.of_below)));
        falls = right_more (weight p) (weight q) (weight_positive p);
      }

  right-given : (p q : Plan) (c : Expr) (y : Parts) → keeps_nulls q ≡ true → IsTyped s (Left p q c) → parts_between s (width s p) 0 q ≡ Some y → IsLawful s (Left p q c) (above y.0 (Left p y.1) c)
  right-given p (Project es q) c y strict t e =
      subst (λ (z : Parts). IsLawful s (Left p (Project es q) c) (above z.0 (Left p z.1) c)) (same_Some (in_between (width s p) (width s q) 0 es, q) y e) (right-lawful es p q c strict t)
  right-given p _ c y strict t e = cc

  of_right : (p q : Plan) (c : Expr) (x : Step) → IsTyped s (Left p q c) → over_right_side s p q c ≡ Some x → IsLawful s (Left p q c) x
  of_right p q c x t e =
      let g = if_given (keeps_nulls q) (option_map (λ (y : Parts). above y.0 (Left p y.1) c) (parts_between s (width s p) 0 q)) x e in
      let m = map_given (λ (y : Parts). above y.0 (Left p y.1) c) (parts_between s (width s p) 0 q) x g.1 in
      subst (IsLawful s (Left p q c)) m.2 (right-given p q c m.0 g.0 t m.1)

  lawful : (p : Plan) (x : Step) → IsTyped s p → lift_projects s p ≡ Some x → IsLawful s p x
  lawful (Select c p) x t e = of_select c p x t e
  lawful (Join ps c) x t e = of_join ps c x t e
  lawful (Left p q c) x t e = elim (or_given (over_left_side s p q c) (over_right_side s p q c) x e) [ inl k ↦ of_left p q c x t k | inr k ↦ of_right p q c x t k ]
  lawful _ x t e = cc

pub lift_projects-keeps : KeepsAll lift_projects
lift_projects-keeps s form p x t e = let l = lawful s p x t e in record { kinds = l.kinds; rows = l.rows }

pub lift_projects-falls : FallsAll lift_projects
lift_projects-falls s form p x t e = (lawful s p x t e).falls
