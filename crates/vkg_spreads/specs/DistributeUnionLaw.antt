-- Its laws: the node over each member has together the rows of the node over the union.
use Rattle.std.proofs.Common.{◌≡◌, ◌∙◌, ◌*◌, ◌<◌, ◌≤◌, ◌++◌, Some, refl, sym, subst, arith}
use Rattle.std.specs.List.{flat_map}
use Rattle.std.specs.List.Sorted.{IsPermutation}
use Rattle.std.proofs.lemmas.List.Sorted.{IsPermutation-trans}
use Rattle.vkg_lists.proofs.Bags.{bag_same}
use Rattle.vkg_lists.proofs.Onto.{map_given}
use Rattle.vkg_lists.proofs.Results.{some_of}
use Rattle.vkg_schema.specs.Rows.{Database}
use Rattle.vkg_plan.specs.Kinds.{Kinds, Tables, plan_kinds}
use Rattle.vkg_plan.specs.Plan.{Plan, Plans, UnionAll, Nil, More}
use Rattle.vkg_plan.specs.Rows.{rows_of, rows_of_each}
use Rattle.vkg_rules.specs.Measure.{weight, weights_sum}
use Rattle.vkg_rules.specs.Steps.{Falls, FallsAll, IsTyped, Keeps, KeepsAll, Step}
use Rattle.vkg_shapes.specs.UnionKinds.{AllKinds, given-union, made-union}
use Rattle.vkg_spreads.specs.Additive.{each-additive}
use Rattle.vkg_spreads.specs.DistributeUnion.{distribute_union, over, over_each, union_over, union_under}
use Rattle.vkg_spreads.specs.Nodes.{IsOver, node-over}

module _ (s : Tables) (p : Plan) (d : IsOver s p) where
  -- ---- rows

  rows-each : (db : Database) (us : Plans) → flat_map (λ rows. rows) (rows_of_each s (over_each p us) db) ≡ flat_map (d.rows db) (rows_of_each s us db)
  rows-each db Nil = refl
  rows-each db (More u us) = λ i. d.are_rows db u i ++ rows-each db us i

  rows-over : (db : Database) (us : Plans) → IsPermutation (rows_of s (over p (UnionAll us)) db) (rows_of s (UnionAll (over_each p us)) db)
  rows-over db us =
      IsPermutation-trans _ _ _ (bag_same (d.are_rows db (UnionAll us)))
      (IsPermutation-trans _ _ _ (each-additive (d.rows db) (d.additive db) (rows_of_each s us db)) (bag_same (sym (rows-each db us))))

  -- ---- kinds

  kinds-each : (ks ls : Kinds) (whole : Plan) → plan_kinds s whole ≡ Some ks → plan_kinds s (over p whole) ≡ Some ls → (us : Plans) → AllKinds s ks us → AllKinds s ls (over_each p us)
  kinds-each ks ls whole e f Nil h = tt
  kinds-each ks ls whole e f (More u us) h = (d.kinds u whole (h.0 ∙ sym e) ∙ f, kinds-each ks ls whole e f us h.1)

  kinds-over : (us : Plans) → IsTyped s (UnionAll us) → IsTyped s (over p (UnionAll us)) → plan_kinds s (UnionAll (over_each p us)) ≡ plan_kinds s (over p (UnionAll us))
  kinds-over Nil h t = cc
  kinds-over (More u us) h t =
      let whole = UnionAll (More u us) in
      let k = some_of (plan_kinds s whole) h in
      let l = some_of (plan_kinds s (over p whole)) t in
      made-union s l.0 (over p u) (over_each p us) (kinds-each k.0 l.0 whole k.1 l.1 (More u us) (given-union s k.0 (More u us) k.1)) ∙ sym l.1

  pub over-keeps : (us : Plans) → IsTyped s (over p (UnionAll us)) → Keeps s (over p (UnionAll us)) (UnionAll (over_each p us))
  over-keeps us t = record { kinds = kinds-over us (d.typed (UnionAll us) t) t; rows = λ db m. rows-over db us }

  -- ---- weight

  sum-over : (us : Plans) → weights_sum (over_each p us) ≤ d.times * weights_sum us
  sum-over Nil = omega arith
  sum-over (More u us) = let h = sum-over us in let w = d.weighs u in let l = d.light in omega (arith, h, w, l)

  pub over-weight : (us : Plans) → weight (UnionAll (over_each p us)) < weight (over p (UnionAll us))
  over-weight us = let h = sum-over us in let w = d.weighs (UnionAll us) in let l = d.two in omega (arith, h, w, l)

pub distribute_union-keeps : KeepsAll distribute_union
distribute_union-keeps s form p x t e =
    let m = map_given (union_over p) (union_under p) x e in
    let us = m.0 in
    let d = node-over s p us m.1 in
    let kept = over-keeps s p d.0 us (subst (IsTyped s) (sym d.1) t) in
    subst (λ (z : Step). Keeps s p z.0) m.2 (subst (λ (q : Plan). Keeps s q (UnionAll (over_each p us))) d.1 kept)

pub distribute_union-falls : FallsAll distribute_union
distribute_union-falls s form p x t e =
    let m = map_given (union_over p) (union_under p) x e in
    let us = m.0 in
    let d = node-over s p us m.1 in
    let less = over-weight s p d.0 us in
    subst (Falls s p) m.2 (subst (λ (q : Plan). weight (UnionAll (over_each p us)) < weight q) d.1 less)
