-- Its laws: the row without columns adds nothing to a row beside it.
use Rattle.std.proofs.Common.{◌≡◌, ◌∙◌, ◌<◌, Bool, true, false, List, [], Option, Some, None, refl, sym, ap, subst, arith, append-nil}
use Rattle.std.specs.Prelude.{option_map, if◌then◌else◌}
use Rattle.std.specs.List.{filter}
use Rattle.std.proofs.Math.Nat.{mul-lt-mul_of_pos_left}
use Rattle.std.proofs.lemmas.Option.{same_Some}
use Rattle.vkg_lists.proofs.Bags.{bag_same}
use Rattle.vkg_lists.proofs.Onto.{map_given}
use Rattle.vkg_lists.specs.Options.{joined, with_first}
use Rattle.vkg_schema.specs.Rows.{Database}
use Rattle.vkg_expr.specs.Expr.{Expr}
use Rattle.vkg_expr.specs.Value.{holds}
use Rattle.vkg_plan.proofs.KindLists.{beside_all-more}
use Rattle.vkg_plan.proofs.Pairs.{pairs-unit, unit-pairs}
use Rattle.vkg_plan.specs.Kinds.{Kinds, Tables, beside_all, checked, kinds_of_each, plan_kinds, side_by_side}
use Rattle.vkg_plan.specs.Plan.{Plan, Plans, Select, Join, Nil, More}
use Rattle.vkg_plan.specs.Plan as plan
use Rattle.vkg_plan.specs.Rows.{pairs, product, rows_of, rows_of_each}
use Rattle.vkg_rules.specs.declared.rewrite.Fell.TheVariants as fell
use Rattle.vkg_rules.specs.Measure.{weights_product}
use Rattle.vkg_rules.specs.Steps.{Falls, FallsAll, Keeps, KeepsAll, Step}
use Rattle.vkg_rules.specs.Weights.{product_positive, weight_positive}
use Rattle.vkg_shapes.specs.FewMembers.{few_joined, few_members, is_unit}
use Rattle.vkg_shapes.specs.Without.{without_first}

-- the kinds of all
abbrev sides : Tables → Plans → Option Kinds
sides s ps = option_map side_by_side (kinds_of_each s ps)

abbrev HasMore : Plans → Type 0
HasMore Nil = ⊥
HasMore (More p ps) = Unit {0}

sides-more : (k : Option Kinds) (o : Option (List Kinds)) → option_map side_by_side (with_first k o) ≡ joined k (option_map side_by_side o)
sides-more None o = refl
sides-more (Some ks) None = refl
sides-more (Some ks) (Some kss) = refl

sides-unit : (o : Option (List Kinds)) → option_map side_by_side (with_first (Some []) o) ≡ option_map side_by_side o
sides-unit None = refl
sides-unit (Some kss) = refl

record Fewer (s : Tables) (ps qs : Plans) : Type 0 where
  kinds : sides s ps ≡ sides s qs
  rows : (db : Database) → product (rows_of_each s ps db) ≡ product (rows_of_each s qs db)
  less : weights_product qs < weights_product ps

fewer-here : (s : Tables) (p : Plan) (ps : Plans) → is_unit p ≡ true → Fewer s (More p ps) ps
fewer-here s plan.Unit ps h = record {
  kinds = sides-unit (kinds_of_each s ps);
  rows = λ db. unit-pairs (product (rows_of_each s ps db));
  less = let k = product_positive ps in omega (arith, k);
}
fewer-here s _ ps h = cc

fewer-at : (s : Tables) (p : Plan) (ps qs : Plans) (b : Bool) → is_unit p ≡ b → ((r : Plans) → without_first is_unit ps ≡ Some r → Fewer s ps r) →
    (if b then Some ps else option_map (More p) (without_first is_unit ps)) ≡ Some qs → Fewer s (More p ps) qs
fewer-at s p ps qs true h rec e = subst (Fewer s (More p ps)) (same_Some ps qs e) (fewer-here s p ps h)
fewer-at s p ps qs false h rec e =
    let a = map_given (More p) (without_first is_unit ps) qs e in
    let d = rec a.0 a.1 in
    subst (Fewer s (More p ps)) a.2 (record {
      kinds = sides-more (plan_kinds s p) (kinds_of_each s ps) ∙ ap (joined (plan_kinds s p)) d.kinds ∙ sym (sides-more (plan_kinds s p) (kinds_of_each s a.0));
      rows = λ db. ap (pairs (rows_of s p db)) (d.rows db);
      less = mul-lt-mul_of_pos_left d.less (weight_positive p);
    })

fewer : (s : Tables) (ps qs : Plans) → without_first is_unit ps ≡ Some qs → Fewer s ps qs
fewer s Nil qs e = cc
fewer s (More p ps) qs e = fewer-at s p ps qs (is_unit p) refl (fewer s ps) e

-- of two members one is left
some-left : (p q : Plan) (ps qs : Plans) (b : Bool) (o : Option Plans) → (if b then Some (More q ps) else option_map (More p) o) ≡ Some qs → HasMore qs
some-left p q ps qs true o e = subst HasMore (same_Some (More q ps) qs e) tt
some-left p q ps qs false o e = let a = map_given (More p) o qs e in subst HasMore a.2 tt

-- ---- the laws

made : (s : Tables) (p : Plan) (ps qs : Plans) → HasMore qs → sides s (More p ps) ≡ sides s qs → beside_all (kinds_of_each s qs) ≡ beside_all (kinds_of_each s (More p ps))
made s p ps Nil h e = absurd h
made s p ps (More q qs) h e = beside_all-more (plan_kinds s q) (kinds_of_each s qs) ∙ sym e ∙ sym (beside_all-more (plan_kinds s p) (kinds_of_each s ps))

fewer-keeps : (s : Tables) (p q : Plan) (ps : Plans) (c : Expr) (x : Step) → option_map (λ qs. (Join qs c, fell.Weight)) (without_first is_unit (More p (More q ps))) ≡ Some x → Keeps s (Join (More p (More q ps)) c) x.0
fewer-keeps s p q ps c x e =
    let all = More p (More q ps) in
    let a = map_given (λ (qs : Plans). (Join qs c, fell.Weight)) (without_first is_unit all) x e in
    let d = fewer s all a.0 a.1 in
    let some = some-left p q ps a.0 (is_unit p) (without_first is_unit (More q ps)) a.1 in
    subst (λ (z : Step). Keeps s (Join all c) z.0) a.2 (record {
      kinds = ap (checked c) (made s p (More q ps) a.0 some d.kinds);
      rows = λ db m. bag_same (ap (filter (holds c)) (d.rows db));
    })

fewer-falls : (s : Tables) (ps : Plans) (c : Expr) (x : Step) → option_map (λ qs. (Join qs c, fell.Weight)) (without_first is_unit ps) ≡ Some x → Falls s (Join ps c) x
fewer-falls s ps c x e =
    let a = map_given (λ (qs : Plans). (Join qs c, fell.Weight)) (without_first is_unit ps) x e in
    let l = (fewer s ps a.0 a.1).less in
    subst (Falls s (Join ps c)) a.2 (omega (arith, l))

beside-one : (o : Option Kinds) → o ≡ beside_all (with_first o (Some []))
beside-one None = refl
beside-one (Some ks) = ap Some (sym (append-nil ks))

one-keeps : (s : Tables) (p : Plan) (c : Expr) → Keeps s (Join (More p Nil) c) (Select c p)
one-keeps s p c = record { kinds = ap (checked c) (beside-one (plan_kinds s p)); rows = λ db m. bag_same (ap (filter (holds c)) (pairs-unit (rows_of s p db))) }

members-keep : (s : Tables) (ps : Plans) (c : Expr) (x : Step) → few_joined c ps ≡ Some x → Keeps s (Join ps c) x.0
members-keep s Nil c x e = cc
members-keep s (More p Nil) c x e = subst (λ (z : Step). Keeps s (Join (More p Nil) c) z.0) (same_Some (Select c p, fell.Weight) x e) (one-keeps s p c)
members-keep s (More p (More q ps)) c x e = fewer-keeps s p q ps c x e

members-fall : (s : Tables) (ps : Plans) (c : Expr) (x : Step) → few_joined c ps ≡ Some x → Falls s (Join ps c) x
members-fall s Nil c x e = cc
members-fall s (More p Nil) c x e = subst (Falls s (Join (More p Nil) c)) (same_Some (Select c p, fell.Weight) x e) (let h = weight_positive p in omega (arith, h))
members-fall s (More p (More q ps)) c x e = fewer-falls s (More p (More q ps)) c x e

pub few_members-keeps : KeepsAll few_members
few_members-keeps s form (Join ps c) x t e = members-keep s ps c x e
few_members-keeps s form _ x t e = cc

pub few_members-falls : FallsAll few_members
few_members-falls s form (Join ps c) x t e = members-fall s ps c x e
few_members-falls s form _ x t e = cc
