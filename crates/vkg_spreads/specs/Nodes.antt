-- Each node over a plan: its kinds, its rows and its weight by those of that plan.
use Rattle.std.proofs.Common.{◌≡◌, ℕ, ◌+◌, ◌*◌, ◌≤◌, List, map, Some, refl, ap, arith}
use Rattle.std.specs.Prelude.{option_and_then}
use Rattle.std.specs.List.{filter}
use Rattle.vkg_lists.specs.Options.{joined}
use Rattle.vkg_schema.specs.Rows.{Database, Row}
use Rattle.vkg_expr.specs.Expr.{Expr, exprs}
use Rattle.vkg_expr.specs.Typing.{kinds_of}
use Rattle.vkg_expr.specs.Value.{holds, values_of}
use Rattle.vkg_plan.specs.Kinds.{Tables, beside_all, checked, plan_kinds, width}
use Rattle.vkg_plan.specs.Plan.{Plan, Plans, Select, Project, Join, Left, UnionAll}
use Rattle.vkg_plan.specs.Rows.{left_pairs, rows_of}
use Rattle.vkg_rules.specs.Measure.{weight}
use Rattle.vkg_rules.specs.Parts.{typed_join, typed_left, typed_project, typed_select}
use Rattle.vkg_rules.specs.Steps.{IsTyped}
use Rattle.vkg_rules.specs.Weights.{weight_positive}
use Rattle.vkg_shapes.specs.PartsLaw.{if_given}
use Rattle.vkg_spreads.specs.Additive.{IsAdditive, filter-additive, left-additive, map-additive, rows-additive}
use Rattle.vkg_spreads.specs.DistributeUnion.{are_few, branches_product, first_union, in_place, members, over, union_members, union_under}
use Rattle.vkg_spreads.specs.Members.{members-is, place-itself, place-of_union}

-- what holds of a node over a plan, whatever the plan
pub record IsOver (s : Tables) (p : Plan) : Type 0 where
  pub typed : (x : Plan) → IsTyped s (over p x) → IsTyped s x
  pub kinds : (x y : Plan) → plan_kinds s x ≡ plan_kinds s y → plan_kinds s (over p x) ≡ plan_kinds s (over p y)
  pub rows : Database → List Row → List Row
  pub are_rows : (db : Database) (x : Plan) → rows_of s (over p x) db ≡ rows db (rows_of s x db)
  pub additive : (db : Database) → IsAdditive (rows db)
  pub times : ℕ
  pub more : ℕ
  pub weighs : (x : Plan) → weight (over p x) ≡ times * weight x + more
  pub two : 2 ≤ times
  pub light : more + 1 ≤ times

module _ (s : Tables) where
  select-over : (c : Expr) (p : Plan) → IsOver s (Select c p)
  select-over c p = record {
    typed = λ x t. typed_select s c x t;
    kinds = λ x y e. ap (checked c) e;
    rows = λ db. filter (holds c);
    are_rows = λ db x. refl;
    additive = λ db. filter-additive (holds c) (λ rows. rows) rows-additive;
    times = 2;
    more = 0;
    weighs = λ x. omega arith;
    two = omega arith;
    light = omega arith;
  }

  project-over : (es : List Expr) (p : Plan) → IsOver s (Project es p)
  project-over es p = record {
    typed = λ x t. typed_project s es x t;
    kinds = λ x y e. ap (option_and_then (kinds_of (exprs es))) e;
    rows = λ db. map (values_of (exprs es));
    are_rows = λ db x. refl;
    additive = λ db. map-additive (values_of (exprs es)) (λ rows. rows) rows-additive;
    times = 3;
    more = 1;
    weighs = λ x. omega arith;
    two = omega arith;
    light = omega arith;
  }

  left-over : (p q : Plan) (c : Expr) → IsOver s (Left p q c)
  left-over p q c = let h = weight_positive q in record {
    typed = λ x t. (typed_left s x q c t).0;
    kinds = λ x y e. ap (λ o. checked c (joined o (plan_kinds s q))) e;
    rows = λ db rows. left_pairs (holds c) (width s q) rows (rows_of s q db);
    are_rows = λ db x. refl;
    additive = λ db. left-additive (holds c) (width s q) (rows_of s q db);
    times = 4 * weight q;
    more = 1;
    weighs = λ x. omega arith;
    two = omega (arith, h);
    light = omega (arith, h);
  }

  join-over : (ps us : Plans) (c : Expr) → first_union ps ≡ Some us → IsOver s (Join ps c)
  join-over ps us c e = let a = place-of_union s ps us e in let h = a.positive in record {
    typed = λ x t. a.typed x (typed_join s (in_place x ps) c t);
    kinds = λ x y k. ap (λ o. checked c (beside_all o)) (a.kinds x y k);
    rows = λ db rows. filter (holds c) (a.rows db rows);
    are_rows = λ db x. ap (filter (holds c)) (a.are_rows db x);
    additive = λ db. filter-additive (holds c) (a.rows db) (a.additive db);
    times = 3 * a.times;
    more = 0;
    weighs = λ x. let w = a.weighs x in omega (arith, w);
    two = omega (arith, h);
    light = omega (arith, h);
  }

  -- the node over the UnionAll is the node itself
  pub node-over : (p : Plan) (us : Plans) → union_under p ≡ Some us → IsOver s p × (over p (UnionAll us) ≡ p)
  node-over (Select c p) us e = (select-over c p, ap (Select c) (members-is p us e))
  node-over (Project es p) us e = (project-over es p, ap (Project es) (members-is p us e))
  node-over (Join ps c) us e =
      let a = if_given (are_few (branches_product ps)) (first_union ps) us e in
      (join-over ps us c a.1, ap (λ qs. Join qs c) (place-itself ps us a.1))
  node-over (Left p q c) us e =
      let a = if_given (are_few (members p)) (union_members p) us e in
      (left-over p q c, ap (λ x. Left x q c) (members-is p us a.1))
  node-over _ us e = cc
