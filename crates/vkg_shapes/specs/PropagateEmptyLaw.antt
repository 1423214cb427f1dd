-- Its laws: nothing beside nothing is nothing, and a union with nothing is the union.
use Rattle.std.proofs.Common.{◌≡◌, ◌∙◌, ◌*◌, ◌<◌, Bool, true, false, ◌||◌, List, [], ◌∷◌, ◌++◌, Option, Some, None, refl, sym, ap, subst, arith}
use Rattle.std.specs.Prelude.{map, option_map, if◌then◌else◌}
use Rattle.std.specs.List.{Contains, filter, flat_map}
use Rattle.std.proofs.lemmas.Option.{same_Some}
use Rattle.vkg_lists.proofs.Bags.{bag_same}
use Rattle.vkg_lists.proofs.Members.{Contains-none}
use Rattle.vkg_lists.proofs.Onto.{map_given}
use Rattle.vkg_lists.proofs.Results.{some_of}
use Rattle.vkg_lists.specs.Sets.{distinct}
use Rattle.vkg_schema.specs.Rows.{Database, Row}
use Rattle.vkg_expr.specs.Expr.{Expr, exprs}
use Rattle.vkg_expr.specs.Value.{holds, values_of}
use Rattle.vkg_plan.specs.Kinds.{Kinds, Tables, plan_kinds, width}
use Rattle.vkg_plan.specs.Plan.{Plan, Plans, Empty, Select, Project, Join, Left, UnionAll, Distinct, Nil, More}
use Rattle.vkg_plan.specs.Rows.{left_pairs, one_row, pairs, product, rows_of, rows_of_each}
use Rattle.vkg_rules.specs.declared.rewrite.Fell.TheVariants as fell
use Rattle.vkg_rules.specs.Measure.{weight, weights_sum}
use Rattle.vkg_rules.specs.Steps.{Falls, FallsAll, IsTyped, Keeps, KeepsAll, Step}
use Rattle.vkg_rules.specs.Weights.{product_positive, weight_positive}
use Rattle.vkg_shapes.specs.Parts.{emptied, padded}
use Rattle.vkg_shapes.specs.PartsLaw.{emptied-falls, emptied-keeps, if_given, padded-falls, padded-keeps, times_more, weight_two}
use Rattle.vkg_shapes.specs.PropagateEmpty.{any_nothing, is_nothing, propagate_empty, united}
use Rattle.vkg_shapes.specs.UnionKinds.{AllKinds, given-union, made-union}
use Rattle.vkg_shapes.specs.Without.{without_first}

pub nothing-rows : (s : Tables) (p : Plan) (db : Database) → is_nothing p ≡ true → rows_of s p db ≡ []
nothing-rows s (Empty ks) db h = refl
nothing-rows s _ db h = cc

pairs-none : (ls : List Row) → pairs ls [] ≡ []
pairs-none [] = refl
pairs-none (l ∷ ls) = pairs-none ls

product-at : (rs : List Row) (rss : List (List Row)) (b d : Bool) → (b ≡ true → rs ≡ []) → (d ≡ true → product rss ≡ []) → (b || d) ≡ true → product (rs ∷ rss) ≡ []
product-at rs rss true d f g h = ap (λ ls. pairs ls (product rss)) (f refl)
product-at rs rss false d f g h = ap (pairs rs) (g h) ∙ pairs-none rs

product-nothing : (s : Tables) (ps : Plans) (db : Database) → any_nothing ps ≡ true → product (rows_of_each s ps db) ≡ []
product-nothing s Nil db h = cc
product-nothing s (More p ps) db h = product-at (rows_of s p db) (rows_of_each s ps db) (is_nothing p) (any_nothing ps) (nothing-rows s p db) (product-nothing s ps db) h

-- ---- members without the first that is nothing

record Dropped (s : Tables) (ps qs : Plans) : Type 0 where
  kinds : (ks : Kinds) → AllKinds s ks ps → AllKinds s ks qs
  rows : (db : Database) → flat_map (λ rows. rows) (rows_of_each s ps db) ≡ flat_map (λ rows. rows) (rows_of_each s qs db)
  less : weights_sum qs < weights_sum ps

dropped-at : (s : Tables) (p : Plan) (ps qs : Plans) (b : Bool) → is_nothing p ≡ b → ((r : Plans) → without_first is_nothing ps ≡ Some r → Dropped s ps r) →
    (if b then Some ps else option_map (More p) (without_first is_nothing ps)) ≡ Some qs → Dropped s (More p ps) qs
dropped-at s p ps qs true h rec e = subst (Dropped s (More p ps)) (same_Some ps qs e) (record {
  kinds = λ ks all. all.1;
  rows = λ db. ap (λ rows. rows ++ flat_map (λ rows. rows) (rows_of_each s ps db)) (nothing-rows s p db h);
  less = omega arith;
})
dropped-at s p ps qs false h rec e =
    let a = map_given (More p) (without_first is_nothing ps) qs e in
    let d = rec a.0 a.1 in
    subst (Dropped s (More p ps)) a.2 (record {
      kinds = λ ks all. (all.0, d.kinds ks all.1);
      rows = λ db. ap (λ rows. rows_of s p db ++ rows) (d.rows db);
      less = let l = d.less in omega (arith, l);
    })

dropped : (s : Tables) (ps qs : Plans) → without_first is_nothing ps ≡ Some qs → Dropped s ps qs
dropped s Nil qs e = cc
dropped s (More p ps) qs e = dropped-at s p ps qs (is_nothing p) refl (dropped s ps) e

united-keeps : (s : Tables) (ps : Plans) (o : Option Plans) (x : Step) → IsTyped s (UnionAll ps) → without_first is_nothing ps ≡ o → united (plan_kinds s (UnionAll ps)) o ≡ Some x → Keeps s (UnionAll ps) x.0
united-keeps s ps None x t h e = cc
united-keeps s ps (Some Nil) x t h e = emptied-keeps s (UnionAll ps) x e (λ db. (dropped s ps Nil h).rows db)
united-keeps s ps (Some (More q qs)) x t h e =
    let d = dropped s ps (More q qs) h in
    let k = some_of (plan_kinds s (UnionAll ps)) t in
    subst (λ (z : Step). Keeps s (UnionAll ps) z.0) (same_Some (UnionAll (More q qs), fell.Weight) x e) (record {
      kinds = made-union s k.0 q qs (d.kinds k.0 (given-union s k.0 ps k.1)) ∙ sym k.1;
      rows = λ db m. bag_same (d.rows db);
    })

united-falls : (s : Tables) (ps : Plans) (o : Option Plans) (x : Step) → without_first is_nothing ps ≡ o → united (plan_kinds s (UnionAll ps)) o ≡ Some x → Falls s (UnionAll ps) x
united-falls s ps None x h e = cc
united-falls s ps (Some Nil) x h e = emptied-falls s (UnionAll ps) (plan_kinds s (UnionAll ps)) x e (omega arith)
united-falls s ps (Some (More q qs)) x h e =
    let l = (dropped s ps (More q qs) h).less in
    subst (Falls s (UnionAll ps)) (same_Some (UnionAll (More q qs), fell.Weight) x e) (omega (arith, l))

-- ---- the laws

module _ (s : Tables) where
  left-keeps : (p q : Plan) (c : Expr) (x : Step) → IsTyped s (Left p q c) → (b d : Bool) → is_nothing p ≡ b → is_nothing q ≡ d →
      (if b then emptied (plan_kinds s (Left p q c)) else (if d then padded (plan_kinds s p) (plan_kinds s q) p else None)) ≡ Some x → Keeps s (Left p q c) x.0
  left-keeps p q c x t true d h k e = emptied-keeps s (Left p q c) x e (λ db. ap (λ ls. left_pairs (holds c) (width s q) ls (rows_of s q db)) (nothing-rows s p db h))
  left-keeps p q c x t false true h k e = padded-keeps s p q c x t e (λ db l r i. absurd (Contains-none r (subst (λ rows. Contains rows r) (nothing-rows s q db k) i)))
  left-keeps p q c x t false false h k e = cc

  left-falls : (p q : Plan) (c : Expr) (x : Step) → (b d : Bool) →
      (if b then emptied (plan_kinds s (Left p q c)) else (if d then padded (plan_kinds s p) (plan_kinds s q) p else None)) ≡ Some x → Falls s (Left p q c) x
  left-falls p q c x true d e =
      let h = weight_positive p in
      let k = times_more (4 * weight p) (weight q) (weight_positive q) in
      emptied-falls s (Left p q c) (plan_kinds s (Left p q c)) x e (omega (arith, h, k))
  left-falls p q c x false true e =
      let h = weight_positive p in
      let k = times_more (4 * weight p) (weight q) (weight_positive q) in
      padded-falls s (Left p q c) p (plan_kinds s p) (plan_kinds s q) x e (omega (arith, h, k))
  left-falls p q c x false false e = cc

pub propagate_empty-keeps : KeepsAll propagate_empty
propagate_empty-keeps s form (Select c p) x t e =
    let a = if_given (is_nothing p) (emptied (plan_kinds s (Select c p))) x e in
    emptied-keeps s (Select c p) x a.1 (λ db. ap (filter (holds c)) (nothing-rows s p db a.0))
propagate_empty-keeps s form (Project es p) x t e =
    let a = if_given (is_nothing p) (emptied (plan_kinds s (Project es p))) x e in
    emptied-keeps s (Project es p) x a.1 (λ db. ap (map (values_of (exprs es))) (nothing-rows s p db a.0))
propagate_empty-keeps s form (Join ps c) x t e =
    let a = if_given (any_nothing ps) (emptied (plan_kinds s (Join ps c))) x e in
    emptied-keeps s (Join ps c) x a.1 (λ db. ap (filter (holds c)) (product-nothing s ps db a.0))
propagate_empty-keeps s form (Left p q c) x t e = left-keeps s p q c x t (is_nothing p) (is_nothing q) refl refl e
propagate_empty-keeps s form (UnionAll ps) x t e = united-keeps s ps (without_first is_nothing ps) x t refl e
propagate_empty-keeps s form (Distinct p) x t e =
    let a = if_given (is_nothing p) (emptied (plan_kinds s (Distinct p))) x e in
    emptied-keeps s (Distinct p) x a.1 (λ db. ap (distinct one_row) (nothing-rows s p db a.0))
propagate_empty-keeps s form _ x t e = cc

pub propagate_empty-falls : FallsAll propagate_empty
propagate_empty-falls s form (Select c p) x t e =
    let a = if_given (is_nothing p) (emptied (plan_kinds s (Select c p))) x e in
    let h = weight_two p in emptied-falls s (Select c p) (plan_kinds s (Select c p)) x a.1 (omega (arith, h))
propagate_empty-falls s form (Project es p) x t e =
    let a = if_given (is_nothing p) (emptied (plan_kinds s (Project es p))) x e in
    let h = weight_two p in emptied-falls s (Project es p) (plan_kinds s (Project es p)) x a.1 (omega (arith, h))
propagate_empty-falls s form (Join ps c) x t e =
    let a = if_given (any_nothing ps) (emptied (plan_kinds s (Join ps c))) x e in
    let h = product_positive ps in emptied-falls s (Join ps c) (plan_kinds s (Join ps c)) x a.1 (omega (arith, h))
propagate_empty-falls s form (Left p q c) x t e = left-falls s p q c x (is_nothing p) (is_nothing q) e
propagate_empty-falls s form (UnionAll ps) x t e = united-falls s ps (without_first is_nothing ps) x refl e
propagate_empty-falls s form (Distinct p) x t e =
    let a = if_given (is_nothing p) (emptied (plan_kinds s (Distinct p))) x e in
    let h = weight_two p in emptied-falls s (Distinct p) (plan_kinds s (Distinct p)) x a.1 (omega (arith, h))
propagate_empty-falls s form _ x t e = cc
