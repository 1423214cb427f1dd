-- The first member of a list that is a union, and the list with its members in its place.
use Rattle.std.proofs.Common.{◌≡◌, ◌∙◌, ℕ, ◌+◌, ◌<◌, Bool, true, false, List, [], ◌∷◌, ◌++◌, map, take, drop, length, get_or, Option, Some, refl, sym, ap, append_assoc}
use Rattle.std.specs.Prelude.{option_map, if◌then◌else◌}
use Rattle.vkg_plan.specs.declared.plan.Plan.{Plan as PlanValue}
use Rattle.vkg_plan.specs.Plan.{Plan, Plans, More}
use Rattle.vkg_plan.specs.Seen.{plan_seen}
use Rattle.vkg_rules.specs.StepSeen.{plans_seen}
use Rattle.vkg_rules.proofs.Inside.{after_all}
use Rattle.vkg_rules.proofs.Members.{after_seen, drop_here, seen_more}
use Rattle.vkg_shapes.proofs.Dropping.{before_one}
use Rattle.vkg_rules.specs.Places.{before_all}
use Rattle.vkg_shapes.specs.FlatUnion.{is_union, members, opened}

-- the members before i stay
abbrev pub Closed : List PlanValue → ℕ → Type 0
Closed ps i = opened (plans_seen ps) ≡ option_map (after_all (map plan_seen (take i ps))) (opened (plans_seen (drop i ps)))

abbrev first_or : Bool → Plan → Plans → Option Plans
first_or b p ps = if b then Some (before_all (members p) ps) else option_map (More p) (opened ps)

closed-here : (ps : List PlanValue) (i : ℕ) (p : PlanValue) (b : Bool) → i < length ps → p ≡ get_or ps i p → is_union (plan_seen p) ≡ b → Closed ps i →
    opened (plans_seen ps) ≡ option_map (after_all (map plan_seen (take i ps))) (first_or b (plan_seen p) (plans_seen (drop (i + 1) ps)))
closed-here ps i p b below is h k =
    k
    ∙ ap (λ l. option_map (after_all (map plan_seen (take i ps))) (opened (plans_seen l))) (drop_here ps i p below is)
    ∙ ap (λ d. option_map (after_all (map plan_seen (take i ps))) (first_or d (plan_seen p) (plans_seen (drop (i + 1) ps)))) h

before_seen : (qs ps : List PlanValue) → before_all (plans_seen qs) (plans_seen ps) ≡ plans_seen (qs ++ ps)
before_seen [] ps = refl
before_seen (q ∷ qs) ps = ap (λ x. More (plan_seen q) x) (before_seen qs ps)

pub union_here : (ps : List PlanValue) (i : ℕ) (p : PlanValue) (inner r : List PlanValue) → i < length ps → p ≡ get_or ps i p → is_union (plan_seen p) ≡ true → plans_seen inner ≡ members (plan_seen p) →
    r ≡ (take i ps ++ inner) ++ drop (i + 1) ps → Closed ps i → Some (plans_seen r) ≡ opened (plans_seen ps)
union_here ps i p inner r below is h parts new k =
    let rest = drop (i + 1) ps in
    ap Some (
    ap plans_seen (new ∙ append_assoc (take i ps) inner rest)
    ∙ sym (after_seen (take i ps) (inner ++ rest))
    ∙ ap (after_all (map plan_seen (take i ps))) (sym (before_seen inner rest) ∙ ap (λ qs. before_all qs (plans_seen rest)) parts))
    ∙ sym (closed-here ps i p true below is h k)

pub no_union_here : (ps : List PlanValue) (i : ℕ) (p : PlanValue) → i < length ps → p ≡ get_or ps i p → is_union (plan_seen p) ≡ false → Closed ps i → Closed ps (i + 1)
no_union_here ps i p below is h k =
    let rest = opened (plans_seen (drop (i + 1) ps)) in
    closed-here ps i p false below is h k
    ∙ before_one (map plan_seen (take i ps)) (plan_seen p) rest
    ∙ ap (λ l. option_map (after_all l) rest) (sym (seen_more ps i p below is))
