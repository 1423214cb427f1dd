-- The end of a rule that is taken again and again, each time at the first subplan in preorder that it changes.
use Rattle.std.specs.Prelude.{◌≡◌, ℕ, zero, suc, Option, Some, None, option_map, option_and_then}
use Rattle.vkg_plan.specs.Kinds.{Tables}
use Rattle.vkg_plan.specs.Plan.{Plan, Plans, Unit as UnitPlan, Empty, Scan, Select, Project, Join, Left, AntiJoin, UnionAll, Distinct, Nil, More}
use Rattle.vkg_rules.specs.Everywhere.{anywhere}
use Rattle.vkg_rules.specs.Steps.{Rule, Step}
use Rattle.vkg_chains.specs.Fix.{run}

abbrev pub end_of : Rule → Tables → Plan → Plan
end_of r schema p = (run (anywhere r) schema p).1

-- the plan with the first subplan changed that the rule changes
abbrev pub changed : Rule → Tables → Plan → Option Plan
changed r schema p = option_map (λ x. x.0) (anywhere r schema p)

-- the plan after n changes, if there are so many
abbrev pub changed_times : ℕ → Rule → Tables → Plan → Option Plan
changed_times zero r schema p = Some p
changed_times (suc n) r schema p = option_and_then (changed_times n r schema) (changed r schema p)

-- some number of changes leads from p to q, where no change is left
pub record IsEndOf (r : Rule) (schema : Tables) (p q : Plan) : Type 0 where
  pub changes : ℕ
  pub reached : changed_times changes r schema p ≡ Some q
  pub ended : changed r schema q ≡ None

-- the rule applies at no subplan
abbrev mutual
  pub Settled : (Plan → Option Step) → Plan → Type 0
  Settled r UnitPlan = r UnitPlan ≡ None
  Settled r (Empty ks) = r (Empty ks) ≡ None
  Settled r (Scan table) = r (Scan table) ≡ None
  Settled r (Select c p) = (r (Select c p) ≡ None) × Settled r p
  Settled r (Project es p) = (r (Project es p) ≡ None) × Settled r p
  Settled r (Join ps c) = (r (Join ps c) ≡ None) × SettledEach r ps
  Settled r (Left p q c) = (r (Left p q c) ≡ None) × Settled r p × Settled r q
  Settled r (AntiJoin p q c) = (r (AntiJoin p q c) ≡ None) × Settled r p × Settled r q
  Settled r (UnionAll ps) = (r (UnionAll ps) ≡ None) × SettledEach r ps
  Settled r (Distinct p) = (r (Distinct p) ≡ None) × Settled r p

  pub SettledEach : (Plan → Option Step) → Plans → Type 0
  SettledEach r Nil = Unit {0}
  SettledEach r (More p ps) = Settled r p × SettledEach r ps
