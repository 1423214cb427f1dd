-- The first member of a list that is a Select, opened where it stands.
use Rattle.std.proofs.Common.{◌≡◌, ◌∙◌, ℕ, ◌+◌, ◌<◌, ◌≤◌, Bool, true, false, List, [], ◌∷◌, ◌++◌, append-nil, map, take, drop, length, get_or, sym, ap}
use Rattle.std.specs.Prelude.{slice_set, if◌then◌else◌}
use Rattle.std.proofs.lemmas.List.{drop-set, drop_all, get_or_default, take-append-drop, take-set, take_all}
use Rattle.vkg_plan.specs.declared.plan.Plan.{Plan as PlanValue}
use Rattle.vkg_plan.specs.Plan.{Plan, Plans, More}
use Rattle.vkg_plan.specs.Seen.{plan_seen}
use Rattle.vkg_rules.specs.StepSeen.{plans_seen}
use Rattle.vkg_rules.proofs.Inside.{after_all}
use Rattle.vkg_rules.proofs.Members.{after_seen, drop_here, seen_more}
use Rattle.vkg_moves.proofs.FirstSelect.{after_one}
use Rattle.vkg_moves.specs.MergeSelects.{below, first_below, is_select}

-- no Select before i
abbrev pub NoneBefore : List PlanValue → ℕ → Type 0
NoneBefore ps i = first_below (plans_seen ps) ≡ after_all (map plan_seen (take i ps)) (first_below (plans_seen (drop i ps)))

abbrev first_or : Bool → Plan → Plans → Plans
first_or b p ps = if b then More (below p) ps else More p (first_below ps)

at-here : (ps : List PlanValue) (i : ℕ) (p : PlanValue) (b : Bool) → i < length ps → p ≡ get_or ps i p → is_select (plan_seen p) ≡ b → NoneBefore ps i →
    first_below (plans_seen ps) ≡ after_all (map plan_seen (take i ps)) (first_or b (plan_seen p) (plans_seen (drop (i + 1) ps)))
at-here ps i p b within is h k =
    k
    ∙ ap (λ l. after_all (map plan_seen (take i ps)) (first_below (plans_seen l))) (drop_here ps i p within is)
    ∙ ap (λ d. after_all (map plan_seen (take i ps)) (first_or d (plan_seen p) (plans_seen (drop (i + 1) ps)))) h

set-parts : (ps : List PlanValue) (i : ℕ) (q : PlanValue) → i < length ps → slice_set ps i q ≡ take i ps ++ q ∷ drop (i + 1) ps
set-parts ps i q within = sym (take-append-drop i (slice_set ps i q)) ∙ (λ j. take-set ps i q j ++ drop-set ps i q within j)

pub opened_here : (ps : List PlanValue) (i : ℕ) (p d q : PlanValue) → i < length ps → p ≡ get_or ps i p → is_select (plan_seen p) ≡ true → plan_seen q ≡ below (plan_seen (get_or ps i d)) → NoneBefore ps i →
    plans_seen (slice_set ps i q) ≡ first_below (plans_seen ps)
opened_here ps i p d q within is is_one e k =
    let rest = drop (i + 1) ps in
    let there = get_or_default ps i d p within ∙ sym is in
    ap plans_seen (set-parts ps i q within)
    ∙ sym (after_seen (take i ps) (q ∷ rest))
    ∙ ap (λ z. after_all (map plan_seen (take i ps)) (More z (plans_seen rest))) (e ∙ ap (λ (v : PlanValue). below (plan_seen v)) there)
    ∙ sym (at-here ps i p true within is is_one k)

pub not_here : (ps : List PlanValue) (i : ℕ) (p : PlanValue) → i < length ps → p ≡ get_or ps i p → is_select (plan_seen p) ≡ false → NoneBefore ps i → NoneBefore ps (i + 1)
not_here ps i p within is is_none k =
    let rest = first_below (plans_seen (drop (i + 1) ps)) in
    at-here ps i p false within is is_none k
    ∙ after_one (map plan_seen (take i ps)) (plan_seen p) rest
    ∙ ap (λ l. after_all l rest) (sym (seen_more ps i p within is))

pub none_at_all : (ps : List PlanValue) (i : ℕ) → length ps ≤ i → NoneBefore ps i → plans_seen ps ≡ first_below (plans_seen ps)
none_at_all ps i past k =
    sym (
    k
    ∙ (λ j. after_all (map plan_seen (take_all i ps past j)) (first_below (plans_seen (drop_all i ps past j))))
    ∙ after_seen ps []
    ∙ ap plans_seen (append-nil ps))
