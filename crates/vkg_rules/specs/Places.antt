-- Places in a plan, plans that differ at a place alone, and what a rule made of a plan before it was changed at a place.
use Rattle.std.specs.Prelude.{◌≡◌, ℕ, zero, suc, List, [], ◌∷◌, Option, Some, None}
use Rattle.vkg_plan.specs.Plan.{Plan, Plans, Unit as UnitPlan, Empty, Scan, Select, Project, Join, Left, AntiJoin, UnionAll, Distinct, Nil, More}
use Rattle.vkg_rules.specs.declared.rewrite.Fell.{Fell}
use Rattle.vkg_rules.specs.Steps.{Step}

-- the first plans, and the second behind them
abbrev pub before_all : Plans → Plans → Plans
before_all Nil ps = ps
before_all (More q qs) ps = More q (before_all qs ps)

-- one plan, and others behind it
abbrev pub Others : Type 0
Others = Plan × Plans

-- A place is told by the member that is taken at each Join, Left, AntiJoin and UnionAll on the way to it, the outermost first. This is the plan with
-- others in the place of what stands there: all of them in a list, the first at a side of a Left or an AntiJoin.
abbrev mutual
  pub with_at : List ℕ → Others → Plan → Plan
  with_at path y UnitPlan = UnitPlan
  with_at path y (Empty ks) = Empty ks
  with_at path y (Scan table) = Scan table
  with_at path y (Select c p) = Select c (with_at path y p)
  with_at path y (Project es p) = Project es (with_at path y p)
  with_at [] y (Join ps c) = Join ps c
  with_at (at ∷ path) y (Join ps c) = Join (with_member at path y ps) c
  with_at [] y (Left p q c) = Left p q c
  with_at (zero ∷ []) y (Left p q c) = Left y.0 q c
  with_at (zero ∷ n ∷ path) y (Left p q c) = Left (with_at (n ∷ path) y p) q c
  with_at (suc at ∷ []) y (Left p q c) = Left p y.0 c
  with_at (suc at ∷ n ∷ path) y (Left p q c) = Left p (with_at (n ∷ path) y q) c
  with_at [] y (AntiJoin p q c) = AntiJoin p q c
  with_at (zero ∷ []) y (AntiJoin p q c) = AntiJoin y.0 q c
  with_at (zero ∷ n ∷ path) y (AntiJoin p q c) = AntiJoin (with_at (n ∷ path) y p) q c
  with_at (suc at ∷ []) y (AntiJoin p q c) = AntiJoin p y.0 c
  with_at (suc at ∷ n ∷ path) y (AntiJoin p q c) = AntiJoin p (with_at (n ∷ path) y q) c
  with_at [] y (UnionAll ps) = UnionAll ps
  with_at (at ∷ path) y (UnionAll ps) = UnionAll (with_member at path y ps)
  with_at path y (Distinct p) = Distinct (with_at path y p)

  pub with_member : ℕ → List ℕ → Others → Plans → Plans
  with_member at path y Nil = More y.0 y.1
  with_member zero [] y (More p ps) = More y.0 (before_all y.1 ps)
  with_member zero (n ∷ path) y (More p ps) = More (with_at (n ∷ path) y p) ps
  with_member (suc at) path y (More p ps) = More p (with_member at path y ps)

-- the first plan is the second but for a place; without a turn, where that is is not told
abbrev pub DiffersAt : List ℕ → Plan → Plan → Type 0
DiffersAt [] p q = Unit {0}
DiffersAt (at ∷ path) p q = (y : Others) × (with_at (at ∷ path) y q ≡ p)

-- the same with the member of a union before which one was dropped
abbrev pub DiffersBefore : Option ℕ → Plan → Plan → Type 0
DiffersBefore None p q = Unit {0}
DiffersBefore (Some at) p q = DiffersAt (at ∷ []) p q

-- the rule did not apply to a plan that is this one but for a place
abbrev pub DidNotApply : (Plan → Option Step) → List ℕ → Plan → Type 0
DidNotApply r [] p = Unit {0}
DidNotApply r (at ∷ path) p = (y : Others) × (r (with_at (at ∷ path) y p) ≡ None)

-- the plan after a step, or the plan itself where there is none, and what is less
abbrev pub outcome : Plan → Option Step → Plan × Option Fell
outcome p None = (p, None)
outcome p (Some x) = (x.0, Some x.1)
