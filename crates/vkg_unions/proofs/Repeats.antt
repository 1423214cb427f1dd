-- The first member of a list that is equal to an earlier one, and the list without it.
use Rattle.std.proofs.Common.{◌≡◌, ◌∙◌, ℕ, ◌+◌, ◌<◌, Bool, true, false, List, [], ◌∷◌, ◌++◌, map, take, drop, length, get_or, Option, Some, refl, sym, ap}
use Rattle.std.specs.Prelude.{option_map, ◌||◌, if◌then◌else◌}
use Rattle.std.specs.List.{list_any}
use Rattle.vkg_plan.specs.declared.plan.Plan.{Plan as PlanValue}
use Rattle.vkg_plan.specs.Plan.{Plan, Plans, More}
use Rattle.vkg_plan.specs.Seen.{plan_seen}
use Rattle.vkg_rules.specs.StepSeen.{plans_seen}
use Rattle.vkg_rules.proofs.Inside.{after_all}
use Rattle.vkg_rules.proofs.Members.{after_seen, drop_here, seen_more}
use Rattle.vkg_shapes.proofs.Dropping.{before_one}
use Rattle.vkg_unions.specs.EqualMembers.{without_repeat}
use Rattle.vkg_unions.specs.SamePlan.{same_plan}

-- no member before i is equal to an earlier one
abbrev pub Unrepeated : List PlanValue → ℕ → Type 0
Unrepeated ps i = without_repeat [] (plans_seen ps) ≡ option_map (after_all (map plan_seen (take i ps))) (without_repeat (map plan_seen (take i ps)) (plans_seen (drop i ps)))

-- one of the plans is equal to this one
abbrev pub is_among : List PlanValue → Plan → Bool
is_among qs p = list_any (λ q. same_plan (plan_seen q) p) qs

any-seen : (p : Plan) (qs : List PlanValue) → list_any (λ q. same_plan q p) (map plan_seen qs) ≡ is_among qs p
any-seen p [] = refl
any-seen p (q ∷ qs) = ap (λ b. same_plan (plan_seen q) p || b) (any-seen p qs)

abbrev first_or : List Plan → Bool → Plan → Plans → Option Plans
first_or earlier b p ps = if b then Some ps else option_map (More p) (without_repeat (earlier ++ p ∷ []) ps)

repeat-here : (ps : List PlanValue) (i : ℕ) (p : PlanValue) (b : Bool) → i < length ps → p ≡ get_or ps i p → is_among (take i ps) (plan_seen p) ≡ b → Unrepeated ps i →
    without_repeat [] (plans_seen ps) ≡ option_map (after_all (map plan_seen (take i ps))) (first_or (map plan_seen (take i ps)) b (plan_seen p) (plans_seen (drop (i + 1) ps)))
repeat-here ps i p b below is h k =
    let earlier = map plan_seen (take i ps) in
    k
    ∙ ap (λ l. option_map (after_all earlier) (without_repeat earlier (plans_seen l))) (drop_here ps i p below is)
    ∙ ap (λ d. option_map (after_all earlier) (first_or earlier d (plan_seen p) (plans_seen (drop (i + 1) ps)))) (any-seen (plan_seen p) (take i ps) ∙ h)

pub repeated_here : (ps : List PlanValue) (i : ℕ) (p : PlanValue) (r : List PlanValue) → i < length ps → p ≡ get_or ps i p → is_among (take i ps) (plan_seen p) ≡ true → r ≡ take i ps ++ drop (i + 1) ps →
    Unrepeated ps i → Some (plans_seen r) ≡ without_repeat [] (plans_seen ps)
repeated_here ps i p r below is h new k =
    ap Some (ap plans_seen new ∙ sym (after_seen (take i ps) (drop (i + 1) ps))) ∙ sym (repeat-here ps i p true below is h k)

pub not_repeated_here : (ps : List PlanValue) (i : ℕ) (p : PlanValue) → i < length ps → p ≡ get_or ps i p → is_among (take i ps) (plan_seen p) ≡ false → Unrepeated ps i → Unrepeated ps (i + 1)
not_repeated_here ps i p below is h k =
    let earlier = map plan_seen (take i ps) in
    let rest = plans_seen (drop (i + 1) ps) in
    repeat-here ps i p false below is h k
    ∙ before_one earlier (plan_seen p) (without_repeat (earlier ++ plan_seen p ∷ []) rest)
    ∙ ap (λ l. option_map (after_all l) (without_repeat l rest)) (sym (seen_more ps i p below is))
