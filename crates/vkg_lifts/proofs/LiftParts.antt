-- What the rule makes of a plan: the expressions that come above it, over the node that is opened.
use Rattle.std.proofs.Common.{◌≡◌, ◌∙◌, ℕ, ◌+◌, true, false, List, Option, Some, None, refl, sym, ap}
use Rattle.std.specs.Prelude.{Bool, option_map, if◌then◌else◌}
use Rattle.std.specs.Option.{option_or}
use Rattle.vkg_columns.specs.Columns.{at_place}
use Rattle.vkg_expr.specs.Expr.{Expr}
use Rattle.vkg_expr.specs.Strict.{put}
use Rattle.vkg_plan.specs.Kinds.{Tables, width}
use Rattle.vkg_plan.specs.Plan.{Plan, Plans, Unit as UnitPlan, Empty, Scan, Select, Project, Join, Left, AntiJoin, UnionAll, Distinct, More, Nil}
use Rattle.vkg_rules.specs.declared.rewrite.Fell.TheVariants as fell
use Rattle.vkg_rules.specs.Steps.{Step}
use Rattle.vkg_lifts.specs.BelowProjects.{below, exprs_above, exprs_of_left, exprs_of_right, first_below, opened}
use Rattle.vkg_lifts.specs.LiftProjects.{Lifted, Parts, above, behind, keeps_nulls, lift_projects, lifted, over_left_side, over_right_side, parts_between}

-- the step to the expressions over the node that is opened
abbrev pub over : Plan → List Expr → Step
over p es = (Project es (opened es p), fell.Weight)

by_test : {A B : Type 0} (b : Bool) (f : A → B) (o : Option A) → (if b then option_map f o else None) ≡ option_map f (if b then o else None)
by_test true f o = refl
by_test false f o = refl

-- ---- the members of a Join

-- the members are those of the list, the first Project among them opened
abbrev AreFirst : Plans → Option Lifted → Type 0
AreFirst ps o = o ≡ option_map (λ (es : List Expr). (es, ps)) (option_map (λ (x : Lifted). x.0) o)

later : (p : Plan) (ps : Plans) (o : Option Lifted) → AreFirst ps o → AreFirst (More p ps) (option_map (behind p) o)
later p ps None e = refl
later p ps (Some x) e = ap (option_map (behind p)) e

above-first : (ps : Plans) (c : Expr) (o : Option Lifted) → AreFirst (first_below ps) o →
    option_map (λ (x : Lifted). above x.0 (Join x.1) c) o ≡ option_map (over (Join ps c)) (option_map (λ (x : Lifted). x.0) o)
above-first ps c None e = refl
above-first ps c (Some x) e = ap (option_map (λ (y : Lifted). above y.0 (Join y.1) c)) e

module _ (s : Tables) where
  first-below : (n : ℕ) (ps : Plans) → AreFirst (first_below ps) (lifted s n ps)
  first-below n Nil = refl
  first-below n (More (Project es p) ps) = refl
  first-below n (More UnitPlan ps) = later UnitPlan (first_below ps) (lifted s (n + width s UnitPlan) ps) (first-below (n + width s UnitPlan) ps)
  first-below n (More (Empty ks) ps) = later (Empty ks) (first_below ps) (lifted s (n + width s (Empty ks)) ps) (first-below (n + width s (Empty ks)) ps)
  first-below n (More (Scan table) ps) = later (Scan table) (first_below ps) (lifted s (n + width s (Scan table)) ps) (first-below (n + width s (Scan table)) ps)
  first-below n (More (Select c p) ps) = later (Select c p) (first_below ps) (lifted s (n + width s (Select c p)) ps) (first-below (n + width s (Select c p)) ps)
  first-below n (More (Join qs c) ps) = later (Join qs c) (first_below ps) (lifted s (n + width s (Join qs c)) ps) (first-below (n + width s (Join qs c)) ps)
  first-below n (More (Left p q c) ps) = later (Left p q c) (first_below ps) (lifted s (n + width s (Left p q c)) ps) (first-below (n + width s (Left p q c)) ps)
  first-below n (More (AntiJoin p q c) ps) = later (AntiJoin p q c) (first_below ps) (lifted s (n + width s (AntiJoin p q c)) ps) (first-below (n + width s (AntiJoin p q c)) ps)
  first-below n (More (UnionAll qs) ps) = later (UnionAll qs) (first_below ps) (lifted s (n + width s (UnionAll qs)) ps) (first-below (n + width s (UnionAll qs)) ps)
  first-below n (More (Distinct p) ps) = later (Distinct p) (first_below ps) (lifted s (n + width s (Distinct p)) ps) (first-below (n + width s (Distinct p)) ps)

  -- ---- the sides of a Left

  right-side : (p q : Plan) (c : Expr) →
      over_right_side s p q c ≡ option_map (λ (es : List Expr). (Project es (Left p (below q) (put (at_place es) c)), fell.Weight)) (exprs_of_right s p q)
  right-side p (Project es q) c =
      by_test (keeps_nulls (Project es q)) (λ (fs : List Expr). (Project fs (Left p q (put (at_place fs) c)), fell.Weight)) (option_map (λ (x : Parts). x.0) (parts_between s (width s p) 0 (Project es q)))
  right-side p _ c = refl

  either-side : (p q : Plan) (c : Expr) → option_or (over_left_side s p q c) (over_right_side s p q c) ≡ option_map (over (Left p q c)) (option_or (exprs_of_left s p q) (exprs_of_right s p q))
  either-side (Project es p) q c = refl
  either-side UnitPlan q c = right-side UnitPlan q c
  either-side (Empty ks) q c = right-side (Empty ks) q c
  either-side (Scan table) q c = right-side (Scan table) q c
  either-side (Select d p) q c = right-side (Select d p) q c
  either-side (Join ps d) q c = right-side (Join ps d) q c
  either-side (Left p r d) q c = right-side (Left p r d) q c
  either-side (AntiJoin p r d) q c = right-side (AntiJoin p r d) q c
  either-side (UnionAll ps) q c = right-side (UnionAll ps) q c
  either-side (Distinct p) q c = right-side (Distinct p) q c

  -- ---- the rule

  pub lift_is : (p : Plan) → lift_projects s p ≡ option_map (over p) (exprs_above s p)
  lift_is (Select c (Project es p)) = refl
  lift_is (Select c _) = refl
  lift_is (Join ps c) = above-first ps c (lifted s 0 ps) (first-below 0 ps)
  lift_is (Left p q c) = either-side p q c
  lift_is _ = refl

  pub no_lift : (p : Plan) → exprs_above s p ≡ None → lift_projects s p ≡ None
  no_lift p e = lift_is p ∙ ap (option_map (over p)) e

  pub lift_above : (p q : Plan) (es : List Expr) → exprs_above s p ≡ Some es → q ≡ Project es (opened es p) → lift_projects s p ≡ Some (q, fell.Weight)
  lift_above p q es e h = lift_is p ∙ ap (option_map (over p)) e ∙ ap (λ (z : Plan). Some (z, fell.Weight)) (sym h)
