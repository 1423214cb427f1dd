-- The first member of a list for which a test holds, and the list without it.
use Rattle.std.proofs.Common.{◌≡◌, ◌∙◌, ℕ, ◌+◌, ◌<◌, Bool, true, false, List, [], ◌∷◌, ◌++◌, map, take, drop, length, get_or, Option, Some, None, refl, sym, ap}
use Rattle.std.specs.Prelude.{option_map, if◌then◌else◌}
use Rattle.vkg_plan.specs.declared.plan.Plan.{Plan as PlanValue}
use Rattle.vkg_plan.specs.Plan.{Plan, Plans, More}
use Rattle.vkg_plan.specs.Seen.{plan_seen}
use Rattle.vkg_rules.specs.declared.rewrite.Fell.TheVariants as fell
use Rattle.vkg_rules.specs.StepSeen.{plans_seen}
use Rattle.vkg_rules.specs.Steps.{ListStep}
use Rattle.vkg_rules.proofs.Inside.{after_all}
use Rattle.vkg_rules.proofs.Members as members
use Rattle.vkg_rules.proofs.Members.{after_seen, drop_here, seen_more}
use Rattle.vkg_shapes.specs.Without.{without_first}

pub before_one : (ps : List Plan) (p : Plan) (o : Option Plans) → option_map (after_all ps) (option_map (More p) o) ≡ option_map (after_all (ps ++ p ∷ [])) o
before_one ps p None = refl
before_one ps p (Some qs) = ap (option_map (λ (x : ListStep). x.0)) (members.before_one ps p (Some (qs, fell.Weight)))

module _ (test : Plan → Bool) where
  -- the members before i stay
  abbrev pub Kept : List PlanValue → ℕ → Type 0
  Kept ps i = without_first test (plans_seen ps) ≡ option_map (after_all (map plan_seen (take i ps))) (without_first test (plans_seen (drop i ps)))

  abbrev first_or : Bool → Plan → Plans → Option Plans
  first_or b p ps = if b then Some ps else option_map (More p) (without_first test ps)

  kept-here : (ps : List PlanValue) (i : ℕ) (p : PlanValue) (b : Bool) → i < length ps → p ≡ get_or ps i p → test (plan_seen p) ≡ b → Kept ps i →
      without_first test (plans_seen ps) ≡ option_map (after_all (map plan_seen (take i ps))) (first_or b (plan_seen p) (plans_seen (drop (i + 1) ps)))
  kept-here ps i p b below is h k =
      k
      ∙ ap (λ l. option_map (after_all (map plan_seen (take i ps))) (without_first test (plans_seen l))) (drop_here ps i p below is)
      ∙ ap (λ d. option_map (after_all (map plan_seen (take i ps))) (first_or d (plan_seen p) (plans_seen (drop (i + 1) ps)))) h

  pub found_here : (ps : List PlanValue) (i : ℕ) (p : PlanValue) (r : List PlanValue) → i < length ps → p ≡ get_or ps i p → test (plan_seen p) ≡ true → r ≡ take i ps ++ drop (i + 1) ps → Kept ps i →
      Some (plans_seen r) ≡ without_first test (plans_seen ps)
  found_here ps i p r below is h new k =
      ap Some (ap plans_seen new ∙ sym (after_seen (take i ps) (drop (i + 1) ps))) ∙ sym (kept-here ps i p true below is h k)

  pub not_here : (ps : List PlanValue) (i : ℕ) (p : PlanValue) → i < length ps → p ≡ get_or ps i p → test (plan_seen p) ≡ false → Kept ps i → Kept ps (i + 1)
  not_here ps i p below is h k =
      let rest = without_first test (plans_seen (drop (i + 1) ps)) in
      kept-here ps i p false below is h k
      ∙ before_one (map plan_seen (take i ps)) (plan_seen p) rest
      ∙ ap (λ l. option_map (after_all l) rest) (sym (seen_more ps i p below is))
