-- A place in a plan before which nothing is left to do.
use Rattle.std.specs.Prelude.{◌≡◌, ℕ, zero, suc, List, [], ◌∷◌, Option, None}
use Rattle.vkg_plan.specs.Plan.{Plan, Plans, Unit as UnitPlan, Empty, Scan, Select, Project, Join, Left, AntiJoin, UnionAll, Distinct, Nil, More}
use Rattle.vkg_rules.specs.Everywhere.{everywhere}
use Rattle.vkg_rules.specs.Places.{DidNotApply}
use Rattle.vkg_rules.specs.Steps.{Step}

-- A place is told by the member that is taken at each Join, Left, AntiJoin and UnionAll on the way to it, the outermost first. The rule changes
-- no subplan that stands before it in preorder, but for those on the way; and of these it changed none before the plan became another there.
abbrev mutual
  pub Behind : (Plan → Option Step) → List ℕ → Plan → Type 0
  Behind r path UnitPlan = DidNotApply r path UnitPlan
  Behind r path (Empty ks) = DidNotApply r path (Empty ks)
  Behind r path (Scan table) = DidNotApply r path (Scan table)
  Behind r path (Select c p) = DidNotApply r path (Select c p) × Behind r path p
  Behind r path (Project es p) = DidNotApply r path (Project es p) × Behind r path p
  Behind r [] (Join ps c) = Unit {0}
  Behind r (at ∷ path) (Join ps c) = DidNotApply r (at ∷ path) (Join ps c) × BehindMember r at path ps
  Behind r [] (Left p q c) = Unit {0}
  Behind r (zero ∷ path) (Left p q c) = DidNotApply r (zero ∷ path) (Left p q c) × Behind r path p
  Behind r (suc at ∷ path) (Left p q c) = DidNotApply r (suc at ∷ path) (Left p q c) × ((everywhere r p ≡ None) × Behind r path q)
  Behind r [] (AntiJoin p q c) = Unit {0}
  Behind r (zero ∷ path) (AntiJoin p q c) = DidNotApply r (zero ∷ path) (AntiJoin p q c) × Behind r path p
  Behind r (suc at ∷ path) (AntiJoin p q c) = DidNotApply r (suc at ∷ path) (AntiJoin p q c) × ((everywhere r p ≡ None) × Behind r path q)
  Behind r [] (UnionAll ps) = Unit {0}
  Behind r (at ∷ path) (UnionAll ps) = DidNotApply r (at ∷ path) (UnionAll ps) × BehindMember r at path ps
  Behind r path (Distinct p) = DidNotApply r path (Distinct p) × Behind r path p

  pub BehindMember : (Plan → Option Step) → ℕ → List ℕ → Plans → Type 0
  BehindMember r at path Nil = Unit {0}
  BehindMember r zero path (More p ps) = Behind r path p
  BehindMember r (suc at) path (More p ps) = (everywhere r p ≡ None) × BehindMember r at path ps

-- of a list of members
abbrev pub BehindEach : (Plan → Option Step) → List ℕ → Plans → Type 0
BehindEach r [] ps = Unit {0}
BehindEach r (at ∷ path) ps = BehindMember r at path ps
