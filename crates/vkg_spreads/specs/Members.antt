-- A product with another plan in the place of its first UnionAll: its kinds, its rows and its weight by those of that plan.
use Rattle.std.proofs.Common.{◌≡◌, ◌∙◌, ℕ, ◌*◌, ◌<◌, List, Option, Some, None, refl, sym, ap, subst, arith}
use Rattle.std.specs.Prelude.{Bool, is_some, if◌then◌else◌}
use Rattle.std.specs.Option.{option_or}
use Rattle.std.proofs.Math.Nat.{mul_assoc}
use Rattle.std.proofs.lemmas.Option.{same_Some}
use Rattle.vkg_lists.specs.Options.{with_first}
use Rattle.vkg_schema.specs.Rows.{Database, Row}
use Rattle.vkg_plan.specs.Kinds.{Tables, kinds_of_each, plan_kinds}
use Rattle.vkg_plan.specs.Plan.{Plan, Plans, UnionAll, Nil, More}
use Rattle.vkg_plan.specs.Rows.{pairs, product, rows_of, rows_of_each}
use Rattle.vkg_rules.specs.Measure.{weight, weights_product}
use Rattle.vkg_rules.specs.Parts.{AreTyped, typed_more}
use Rattle.vkg_rules.specs.Steps.{IsTyped}
use Rattle.vkg_rules.specs.Weights.{product_positive, weight_positive}
use Rattle.vkg_shapes.specs.PartsLaw.{times_more}
use Rattle.vkg_spreads.specs.Additive.{IsAdditive, behind-additive, pairs-additive}
use Rattle.vkg_spreads.specs.DistributeUnion.{first_union, in_place, union_members}

-- what holds of a list of plans with a place, whatever plan stands there
pub record HasPlace (s : Tables) (among : Plan → Plans) : Type 0 where
  pub typed : (x : Plan) → AreTyped s (among x) → IsTyped s x
  pub kinds : (x y : Plan) → plan_kinds s x ≡ plan_kinds s y → kinds_of_each s (among x) ≡ kinds_of_each s (among y)
  pub rows : Database → List Row → List Row
  pub are_rows : (db : Database) (x : Plan) → product (rows_of_each s (among x) db) ≡ rows db (rows_of s x db)
  pub additive : (db : Database) → IsAdditive (rows db)
  pub times : ℕ
  pub weighs : (x : Plan) → weights_product (among x) ≡ times * weight x
  pub positive : 0 < times

module _ (s : Tables) where
  place-first : (ps : Plans) → HasPlace s (λ x. More x ps)
  place-first ps = record {
    typed = λ x t. (typed_more s x ps t).0;
    kinds = λ x y e. ap (λ o. with_first o (kinds_of_each s ps)) e;
    rows = λ db rows. pairs rows (product (rows_of_each s ps db));
    are_rows = λ db x. refl;
    additive = λ db. pairs-additive (product (rows_of_each s ps db));
    times = weights_product ps;
    weighs = λ x. omega arith;
    positive = product_positive ps;
  }

  place-later : (p : Plan) (among : Plan → Plans) → HasPlace s among → HasPlace s (λ x. More p (among x))
  place-later p among a = record {
    typed = λ x t. a.typed x (typed_more s p (among x) t).1;
    kinds = λ x y e. ap (with_first (plan_kinds s p)) (a.kinds x y e);
    rows = λ db rows. pairs (rows_of s p db) (a.rows db rows);
    are_rows = λ db x. ap (pairs (rows_of s p db)) (a.are_rows db x);
    additive = λ db. behind-additive (rows_of s p db) (a.rows db) (a.additive db);
    times = weight p * a.times;
    weighs = λ x. ap (λ n. weight p * n) (a.weighs x) ∙ sym (mul_assoc (weight p) a.times (weight x));
    positive = let h = weight_positive p in let k = times_more (weight p) a.times a.positive in omega (arith, h, k);
  }

  -- the list with its first plan replaced, or with one behind it
  place-at : (p : Plan) (ps us : Plans) (o : Option Plans) → union_members p ≡ o → (first_union ps ≡ Some us → HasPlace s (λ x. in_place x ps)) →
      option_or o (first_union ps) ≡ Some us → HasPlace s (λ x. in_place x (More p ps))
  place-at p ps us None h rec e = subst (λ (b : Bool). HasPlace s (λ x. if b then More x ps else More p (in_place x ps))) (sym (ap is_some h)) (place-later p (λ x. in_place x ps) (rec e))
  place-at p ps us (Some vs) h rec e = subst (λ (b : Bool). HasPlace s (λ x. if b then More x ps else More p (in_place x ps))) (sym (ap is_some h)) (place-first ps)

  pub place-of_union : (ps us : Plans) → first_union ps ≡ Some us → HasPlace s (λ x. in_place x ps)
  place-of_union Nil us e = cc
  place-of_union (More p ps) us e = place-at p ps us (union_members p) refl (place-of_union ps us) e

-- ---- the list itself, where that plan is its first UnionAll

pub members-is : (p : Plan) (us : Plans) → union_members p ≡ Some us → UnionAll us ≡ p
members-is (UnionAll vs) us e = ap UnionAll (sym (same_Some vs us e))
members-is _ us e = cc

itself-at : (p : Plan) (ps us : Plans) (o : Option Plans) → union_members p ≡ o → (first_union ps ≡ Some us → in_place (UnionAll us) ps ≡ ps) →
    option_or o (first_union ps) ≡ Some us → in_place (UnionAll us) (More p ps) ≡ More p ps
itself-at p ps us None h rec e = ap (λ (b : Bool). if b then More (UnionAll us) ps else More p (in_place (UnionAll us) ps)) (ap is_some h) ∙ ap (More p) (rec e)
itself-at p ps us (Some vs) h rec e = ap (λ (b : Bool). if b then More (UnionAll us) ps else More p (in_place (UnionAll us) ps)) (ap is_some h) ∙ ap (λ q. More q ps) (members-is p us (h ∙ e))

pub place-itself : (ps us : Plans) → first_union ps ≡ Some us → in_place (UnionAll us) ps ≡ ps
place-itself Nil us e = cc
place-itself (More p ps) us e = itself-at p ps us (union_members p) refl (place-itself ps us) e
