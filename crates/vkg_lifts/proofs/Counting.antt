-- A plan that is well typed has as many columns as are counted.
use Rattle.std.proofs.Common.{◌≡◌, ◌∙◌, ◌+◌, List, [], ◌∷◌, length, length-append, map, Option, Some, None, refl, sym, ap, get_or, ◌≤◌, arith}
use Rattle.std.specs.Prelude.{option_map, slice_get}
use Rattle.std.specs.Option.{option_map_or}
use Rattle.std.proofs.lemmas.List.{length-map}
use Rattle.std.proofs.lemmas.Option.{same_Some}
use Rattle.vkg_lists.proofs.Onto.{both_given, first_given}
use Rattle.vkg_lists.proofs.Results.{some_of}
use Rattle.vkg_lists.specs.Options.{joined}
use Rattle.vkg_schema.specs.declared.table.Table.{Table}
use Rattle.vkg_plan.proofs.RowsFit.{beside_is, checked_is, first_checked-parts}
use Rattle.vkg_plan.specs.declared.plan.Plan.{Plan as PlanValue}
use Rattle.vkg_plan.specs.Kinds.{Kinds, Tables, beside_all, kinds_of_each, plan_kinds, side_by_side, width}
use Rattle.vkg_plan.specs.Plan.{Plan, Plans, Unit as UnitPlan, Empty, Scan, Select, Project, Join, Left, AntiJoin, UnionAll, Distinct, Nil, More}
use Rattle.vkg_plan.specs.Seen.{plan_seen}
use Rattle.vkg_rules.specs.Parts.{AreTyped, typed_more}
use Rattle.vkg_rules.specs.Steps.{IsTyped}
use Rattle.vkg_rules.specs.StepSeen.{plans_seen}
use Rattle.vkg_shapes.specs.UnionKinds.{given-union}
use Rattle.vkg_lifts.specs.Counted.{counted, counted_beside}
use Rattle.vkg_lifts.specs.InBetween.{kinds-long}
use Rattle.vkg_lifts.specs.LiftedKinds.{as_wide, project-kinds}
use Rattle.vkg_lifts.specs.LiftProjects.{widths}

of-table : (o : Option Table) (ks : Kinds) → option_map (λ (t : Table). map (λ c. c.kind) t.columns) o ≡ Some ks → length (option_map_or (λ (t : Table). t.columns) o []) ≡ length ks
of-table None ks e = cc
of-table (Some t) ks e = sym (length-map t.columns (λ c. c.kind)) ∙ ap length (same_Some (map (λ c. c.kind) t.columns) ks e)

module _ (s : Tables) where
  mutual
    of-kinds : (p : Plan) (ks : Kinds) → plan_kinds s p ≡ Some ks → counted s p ≡ length ks
    of-kinds UnitPlan ks e = ap length (same_Some [] ks e)
    of-kinds (Empty ls) ks e = ap length (same_Some ls ks e)
    of-kinds (Scan table) ks e = of-table (slice_get s table) ks e
    of-kinds (Select c p) ks e = of-kinds p ks (checked_is c (plan_kinds s p) ks e)
    of-kinds (Project es p) ks e = let own = project-kinds s es p ks e in sym (kinds-long es own.below ks own.of_each)
    of-kinds (Join ps c) ks e =
        let b = beside_is (kinds_of_each s ps) ks (checked_is c (beside_all (kinds_of_each s ps)) ks e) in
        of-each ps b.0 b.1 ∙ ap length b.2
    of-kinds (Left p q c) ks e =
        let b = both_given (plan_kinds s p) (plan_kinds s q) ks (checked_is c (joined (plan_kinds s p) (plan_kinds s q)) ks e) in
        (λ i. of-kinds p b.0 b.1 i + of-kinds q b.2.0 b.2.1 i) ∙ sym (length-append b.0 b.2.0) ∙ ap length b.2.2
    of-kinds (AntiJoin p q c) ks e = of-kinds p ks (first_checked-parts c (plan_kinds s p) (plan_kinds s q) ks e).first
    of-kinds (UnionAll Nil) ks e = cc
    of-kinds (UnionAll (More p ps)) ks e = of-kinds p ks (given-union s ks (More p ps) e).0
    of-kinds (Distinct p) ks e = of-kinds p ks e

    of-each : (ps : Plans) (kss : List Kinds) → kinds_of_each s ps ≡ Some kss → counted_beside s ps ≡ length (side_by_side kss)
    of-each Nil kss e = ap (λ (l : List Kinds). length (side_by_side l)) (same_Some [] kss e)
    of-each (More p ps) kss e =
        let a = first_given (plan_kinds s p) (kinds_of_each s ps) kss e in
        (λ i. of-kinds p a.0 a.1 i + of-each ps a.2.0 a.2.1 i)
        ∙ sym (length-append a.0 (side_by_side a.2.0))
        ∙ ap (λ (l : List Kinds). length (side_by_side l)) a.2.2

  pub counted_width : (p : Plan) → IsTyped s p → counted s p ≡ width s p
  counted_width p t = let a = some_of (plan_kinds s p) t in of-kinds p a.0 a.1 ∙ as_wide s p a.0 a.1

  pub counted_widths : (ps : Plans) → AreTyped s ps → counted_beside s ps ≡ widths s ps
  counted_widths Nil t = refl
  counted_widths (More p ps) t = let b = typed_more s p ps t in λ i. counted_width p b.0 i + counted_widths ps b.1 i

-- a union's first member
pub counted_first : (s : Tables) (ps : List PlanValue) (p : PlanValue) → 1 ≤ length ps → p ≡ get_or ps 0 p → counted s (plan_seen p) ≡ counted s (UnionAll (plans_seen ps))
counted_first s [] p h is = absurd (omega (arith, h))
counted_first s (q ∷ qs) p h is = ap (λ (x : PlanValue). counted s (plan_seen x)) is
