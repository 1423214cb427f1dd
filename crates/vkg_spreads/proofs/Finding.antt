-- The first union of a list.
use Rattle.std.proofs.Common.{◌≡◌, ◌∙◌, ℕ, ◌+◌, ◌<◌, List, Option, drop, length, get_or, sym, ap}
use Rattle.std.specs.Option.{option_or}
use Rattle.vkg_plan.specs.declared.plan.Plan.{Plan as PlanValue}
use Rattle.vkg_plan.specs.Plan.{Plans}
use Rattle.vkg_plan.specs.Seen.{plan_seen}
use Rattle.vkg_rules.specs.StepSeen.{plans_seen}
use Rattle.vkg_rules.proofs.Members.{drop_here}
use Rattle.vkg_spreads.specs.DistributeUnion.{first_union, union_members}

-- there is none before i
abbrev pub NotFound : List PlanValue → ℕ → Type 0
NotFound ps i = first_union (plans_seen ps) ≡ first_union (plans_seen (drop i ps))

-- at i it is what the plan there gives, or what is found behind it
pub found_here : (ps : List PlanValue) (i : ℕ) (p : PlanValue) (o : Option Plans) → i < length ps → p ≡ get_or ps i p → o ≡ union_members (plan_seen p) → NotFound ps i →
    first_union (plans_seen ps) ≡ option_or o (first_union (plans_seen (drop (i + 1) ps)))
found_here ps i p o below is h k =
    k
    ∙ ap (λ l. first_union (plans_seen l)) (drop_here ps i p below is)
    ∙ ap (λ m. option_or m (first_union (plans_seen (drop (i + 1) ps)))) (sym h)
