-- Nodes around a plan, each the left side or the part below of the one before, and what is known of a rule at each of them.
use Rattle.std.specs.Prelude.{◌≡◌, ℕ, zero, suc, Bool, true, List, [], ◌∷◌, ◌++◌, Option, Some, None}
use Rattle.vkg_plan.specs.Kinds.{Tables}
use Rattle.vkg_plan.specs.Plan.{Plan, Unit as UnitPlan, Project, Left}
use Rattle.vkg_rules.specs.declared.rewrite.Fell.{Fell}
use Rattle.vkg_rules.specs.Everywhere.{everywhere}
use Rattle.vkg_rules.specs.Places.{outcome}
use Rattle.vkg_rules.specs.Steps.{Step}
use Rattle.vkg_steps.specs.Behind.{Behind}
use Rattle.vkg_steps.specs.Outcomes.{IsStep}
use Rattle.vkg_steps.specs.Rests.{Rests}

-- ---- sides: a left join without its left side, or a Project without what it projects

abbrev pub IsLeftSide : Plan → Type 0
IsLeftSide (Left h q c) = Unit {0}
IsLeftSide p = ⊥

abbrev pub IsSide : Plan → Type 0
IsSide (Left h q c) = Unit {0}
IsSide (Project es h) = Unit {0}
IsSide p = ⊥

abbrev pub AreLeftSides : List Plan → Type 0
AreLeftSides [] = Unit {0}
AreLeftSides (x ∷ xs) = IsLeftSide x × AreLeftSides xs

-- a Project is the outermost alone
abbrev pub MayFollow : List Plan → Plan → Type 0
MayFollow [] x = Unit {0}
MayFollow (y ∷ ys) x = IsLeftSide x

-- the node of a side and a plan
abbrev pub over : Plan → Plan → Plan
over (Left h q c) p = Left p q c
over (Project es h) p = Project es p
over x p = p

-- the plan within these sides, the outermost first
abbrev pub within : List Plan → Plan → Plan
within [] p = p
within (x ∷ xs) p = over x (within xs p)

-- the rule rests at the node of each
abbrev pub AllRest : Tables → (Plan → Option Step) → List Plan → Plan → Type 0
AllRest schema r [] p = Unit {0}
AllRest schema r (x ∷ xs) p = IsSide x × Rests schema r (over x (within xs p)) × AreLeftSides xs × AllRest schema r xs p

-- a place in the plan below a side, as one in the node
abbrev pub path_over : Plan → List ℕ → List ℕ
path_over (Left h q c) path = 0 ∷ path
path_over x path = path

-- the whole is the plan within these sides, at which the rule rests, and nothing is left to do before a place in the plan
abbrev pub IsAround : Tables → (Plan → Option Step) → List Plan → Plan → List ℕ → Plan → Type 0
IsAround schema r xs p path whole = (within xs p ≡ whole) × AllRest schema r xs p × Behind r path p

-- ---- one side more

-- a place that leads to the left of a left join leads there by a first turn; without a turn, where it leads is not told
abbrev pub IsLeftwards : List ℕ → List ℕ → Type 0
IsLeftwards below [] = below ≡ []
IsLeftwards below (zero ∷ path) = below ≡ path
IsLeftwards below (suc at ∷ path) = ⊥

-- the rule rests at the node, and the place leads to the left, or below a Project that is the outermost
abbrev pub GoesDown : Tables → (Plan → Option Step) → Bool → List ℕ → List ℕ → Plan → Type 0
GoesDown schema r outermost path below (Left p q c) = Rests schema r (Left p q c) × IsLeftwards below path
GoesDown schema r outermost path below (Project es p) = Rests schema r (Project es p) × (outermost ≡ true) × (below ≡ path)
GoesDown schema r outermost path below p = ⊥

-- what is on the left of a node or below it, with one side more around that; another plan stays
abbrev pub IsOpened : List Plan → Plan → List Plan → Plan → Type 0
IsOpened xs (Left p q c) ys l = (ys ≡ xs ++ Left UnitPlan q c ∷ []) × (l ≡ p)
IsOpened xs (Project es p) ys l = (ys ≡ xs ++ Project es UnitPlan ∷ []) × (l ≡ p)
IsOpened xs p ys l = (ys ≡ xs) × (l ≡ p)

-- ---- one side less

-- the innermost side is taken, if there is one, and the plan is its node
abbrev pub RaisedBy : Option Plan → List Plan → Plan → List ℕ → List Plan → Plan → List ℕ → Type 0
RaisedBy None xs p path ys q way = (xs ≡ []) × (ys ≡ []) × (q ≡ p) × (way ≡ path)
RaisedBy (Some x) xs p path ys q way = (xs ≡ ys ++ x ∷ []) × (q ≡ over x p) × (way ≡ path_over x path)

abbrev pub IsRaised : List Plan → Plan → List ℕ → List Plan → Plan → List ℕ → Type 0
IsRaised xs p path ys q way = (x : Option Plan) × RaisedBy x xs p path ys q way

-- ---- a step

-- the whole is a plan within these sides, at which the rule rests, and q is that plan after a step in it
abbrev pub HasStepped : Tables → (Plan → Option Step) → Plan → List Plan → Plan → Option Fell → List ℕ → Type 0
HasStepped schema r whole xs q fell place = (p : Plan) × (within xs p ≡ whole) × AllRest schema r xs p × IsStep r p q fell place

-- where there was no step, nothing is around the plan any more
abbrev pub IsReady : Option Fell → Tables → (Plan → Option Step) → List Plan → Plan → List ℕ → Type 0
IsReady None schema r xs p path = xs ≡ []
IsReady (Some fell) schema r xs p path = AllRest schema r xs p × Behind r path p

-- the plan within these sides is the whole after a step at the first subplan that the rule changes
abbrev pub IsStepOf : Tables → (Plan → Option Step) → Plan → List Plan → Plan → Option Fell → List ℕ → Type 0
IsStepOf schema r whole xs p fell path = ((within xs p, fell) ≡ outcome whole (everywhere r whole)) × IsReady fell schema r xs p path
