-- The kinds that a well-typed plan's nodes give are those of its columns.
use Rattle.std.proofs.Common.{◌≡◌, ◌∙◌, ◌≤◌, arith, true, List, [], ◌∷◌, ◌++◌, get_or, length, map, sym, ap}
use Rattle.std.specs.Prelude.{Option, Some, None, is_some}
use Rattle.std.specs.List.{list_all}
use Rattle.std.specs.Cmp.Lexicographic.{pointwise}
use Rattle.std.proofs.lemmas.Option.{same_Some, cond_some, option_and_then_some}
use Rattle.vkg_lists.proofs.Onto.{both_given, first_given}
use Rattle.vkg_lists.proofs.Results.{some_of}
use Rattle.vkg_lists.specs.Options.{joined, with_first}
use Rattle.vkg_expr.specs.Expr.{exprs}
use Rattle.vkg_expr.specs.Typing.{kinds_of, same_kind}
use Rattle.vkg_plan.specs.declared.plan.Plan.{Plan as PlanValue}
use Rattle.vkg_plan.specs.GivenKinds.{given_beside, given_kinds, or_no_kinds}
use Rattle.vkg_plan.specs.Kinds.{Kinds, Tables, alike, beside_all, kinds_of_each, plan_kinds, side_by_side}
use Rattle.vkg_plan.specs.Plan.{Plan, Plans, Unit as UnitPlan, Empty, Scan, Select, Project, Join, Left, AntiJoin, UnionAll, Distinct, Nil, More, plans}
use Rattle.vkg_plan.specs.Seen.{plan_seen}
use Rattle.vkg_plan.proofs.RowsFit.{beside_is, checked_is, first_checked-parts}

first_alike : (a : Option Kinds) (o : Option (List Kinds)) (ks : Kinds) → alike (with_first a o) ≡ Some ks → a ≡ Some ks
first_alike None o ks e = cc
first_alike (Some ls) None ks e = cc
first_alike (Some ls) (Some kss) ks e = ap Some (cond_some (list_all (pointwise same_kind ls) kss) ls ks e).1

module _ (s : Tables) where
  mutual
    pub given-is : (p : Plan) (ks : Kinds) → plan_kinds s p ≡ Some ks → given_kinds s p ≡ ks
    given-is UnitPlan ks e = same_Some [] ks e
    given-is (Empty ls) ks e = same_Some ls ks e
    given-is (Scan table) ks e = ap or_no_kinds e
    given-is (Select c p) ks e = given-is p ks (checked_is c (plan_kinds s p) ks e)
    given-is (Project es p) ks e = option_and_then_some (kinds_of (exprs es)) (plan_kinds s p) ks e (λ ls i j. ap (λ l. or_no_kinds (kinds_of (exprs es) l)) (given-is p ls i) ∙ ap or_no_kinds j)
    given-is (Join ps c) ks e =
        let a = beside_is (kinds_of_each s ps) ks (checked_is c (beside_all (kinds_of_each s ps)) ks e) in
        given_each-is ps a.0 a.1 ∙ a.2
    given-is (Left p q c) ks e =
        let a = both_given (plan_kinds s p) (plan_kinds s q) ks (checked_is c (joined (plan_kinds s p) (plan_kinds s q)) ks e) in
        (λ i. given-is p a.0 a.1 i ++ given-is q a.2.0 a.2.1 i) ∙ a.2.2
    given-is (AntiJoin p q c) ks e = given-is p ks (first_checked-parts c (plan_kinds s p) (plan_kinds s q) ks e).first
    given-is (UnionAll Nil) ks e = cc
    given-is (UnionAll (More p ps)) ks e = given-is p ks (first_alike (plan_kinds s p) (kinds_of_each s ps) ks e)
    given-is (Distinct p) ks e = given-is p ks e

    given_each-is : (ps : Plans) (kss : List Kinds) → kinds_of_each s ps ≡ Some kss → given_beside s ps ≡ side_by_side kss
    given_each-is Nil kss e = ap side_by_side (same_Some [] kss e)
    given_each-is (More p ps) kss e =
        let a = first_given (plan_kinds s p) (kinds_of_each s ps) kss e in
        (λ i. given-is p a.0 a.1 i ++ given_each-is ps a.2.0 a.2.1 i) ∙ ap side_by_side a.2.2

-- so of a plan that is well typed
pub given_kinds-typed : (s : Tables) (p : Plan) → is_some (plan_kinds s p) ≡ true → given_kinds s p ≡ or_no_kinds (plan_kinds s p)
given_kinds-typed s p t =
    let a = some_of (plan_kinds s p) t in
    given-is s p a.0 a.1 ∙ sym (ap or_no_kinds a.1)

-- ---- a union's first member

pub of_first : (s : Tables) (ps : List PlanValue) (p : PlanValue) → 1 ≤ length ps → p ≡ get_or ps 0 p → given_kinds s (plan_seen p) ≡ given_kinds s (UnionAll (plans (map plan_seen ps)))
of_first s [] p h is = absurd (omega (arith, h))
of_first s (q ∷ qs) p h is = ap (λ x. given_kinds s (plan_seen x)) is
