-- Plans in lists, as the program has them and as they are seen.
use Rattle.std.proofs.Common.{◌≡◌, ◌∙◌, ℕ, zero, suc, ◌+◌, List, [], ◌∷◌, ◌++◌, length, map, take, drop, add-one, refl, sym, ap}
use Rattle.std.proofs.lemmas.List.{length-map, map-append}
use Rattle.vkg_plan.specs.declared.plan.Plan.{Plan as PlanValue}
use Rattle.vkg_plan.specs.Plan.{Plan, More, each, plans}
use Rattle.vkg_plan.specs.Seen.{plan_seen}
use Rattle.vkg_rules.specs.StepSeen.{plans_seen}
use Rattle.vkg_shapes.specs.Without.{without_at}

pub each_plans : (ps : List Plan) → each (plans ps) ≡ ps
each_plans [] = refl
each_plans (p ∷ ps) = ap (λ l. p ∷ l) (each_plans ps)

pub both_seen : (ps qs : List PlanValue) → map plan_seen (ps ++ qs) ≡ map plan_seen ps ++ map plan_seen qs
both_seen ps qs = map-append plan_seen ps qs

pub both_plans : (ps qs : List PlanValue) → plans (map plan_seen (ps ++ qs)) ≡ plans (map plan_seen ps ++ map plan_seen qs)
both_plans ps qs = ap plans (map-append plan_seen ps qs)

pub before_length : (ps : List PlanValue) (at : ℕ) → length (map plan_seen (take at ps)) ≡ length (take at ps)
before_length ps at = length-map (take at ps) plan_seen

-- the members but for the one at a place
rest-behind : (ps : List PlanValue) (at : ℕ) → without_at at (plans_seen ps) ≡ plans (map plan_seen (take at ps) ++ map plan_seen (drop (suc at) ps))
rest-behind [] zero = refl
rest-behind [] (suc at) = refl
rest-behind (p ∷ ps) zero = refl
rest-behind (p ∷ ps) (suc at) = ap (More (plan_seen p)) (rest-behind ps at)

pub rest_is : (ps : List PlanValue) (at : ℕ) → without_at at (plans_seen ps) ≡ plans (map plan_seen (take at ps) ++ map plan_seen (drop (at + 1) ps))
rest_is ps at = rest-behind ps at ∙ ap (λ n. plans (map plan_seen (take at ps) ++ map plan_seen (drop n ps))) (sym (add-one at))
