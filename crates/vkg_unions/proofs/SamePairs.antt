-- Lists of plans that are one each: as many, and so on behind each pair.
use Rattle.std.proofs.Common.{◌≡◌, ◌∙◌, ◌≢◌, ℕ, ◌+◌, ◌<◌, Bool, true, false, ◌&&◌, List, [], ◌∷◌, drop, length, get_or, refl, ap, arith}
use Rattle.vkg_plan.specs.declared.plan.Plan.{Plan as PlanValue}
use Rattle.vkg_plan.specs.Seen.{plan_seen}
use Rattle.vkg_rules.specs.StepSeen.{plans_seen}
use Rattle.vkg_rules.proofs.Members.{drop_here}
use Rattle.vkg_unions.specs.SamePlan.{same_plan, same_plans}

and_false : (b : Bool) → (b && false) ≡ false
and_false true = refl
and_false false = refl

pub longer_apart : (ps qs : List PlanValue) → (length ps ≢ length qs) → same_plans (plans_seen ps) (plans_seen qs) ≡ false
longer_apart [] [] h = absurd (h refl)
longer_apart [] (q ∷ qs) h = refl
longer_apart (p ∷ ps) [] h = refl
longer_apart (p ∷ ps) (q ∷ qs) h =
    ap (λ b. same_plan (plan_seen p) (plan_seen q) && b) (longer_apart ps qs (λ e. h (omega (arith, e)))) ∙ and_false (same_plan (plan_seen p) (plan_seen q))

-- the pairs before i are one each
abbrev pub SameBefore : List PlanValue → List PlanValue → ℕ → Type 0
SameBefore ps qs i = same_plans (plans_seen ps) (plans_seen qs) ≡ same_plans (plans_seen (drop i ps)) (plans_seen (drop i qs))

pub pair_here : (ps qs : List PlanValue) (i : ℕ) (p q : PlanValue) (b : Bool) → i < length ps → i < length qs → p ≡ get_or ps i p → q ≡ get_or qs i q → same_plan (plan_seen p) (plan_seen q) ≡ b →
    SameBefore ps qs i → same_plans (plans_seen ps) (plans_seen qs) ≡ (b && same_plans (plans_seen (drop (i + 1) ps)) (plans_seen (drop (i + 1) qs)))
pair_here ps qs i p q b below within is so h k =
    k
    ∙ (λ j. same_plans (plans_seen (drop_here ps i p below is j)) (plans_seen (drop_here qs i q within so j)))
    ∙ ap (λ d. d && same_plans (plans_seen (drop (i + 1) ps)) (plans_seen (drop (i + 1) qs))) h
