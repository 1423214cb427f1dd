-- Where a plan is among others its number is among theirs.
use Rattle.std.proofs.Common.{◌≡◌, ◌∙◌, ◌==◌, ℕ, Bool, true, false, ◌&&◌, List, [], ◌∷◌, take, refl, sym, ap}
use Rattle.std.specs.Prelude.{◌||◌}
use Rattle.std.specs.List.{list_any, take-map}
use Rattle.vkg_lists.proofs.Counts.{eq_itself}
use Rattle.vkg_lists.proofs.Tests.{nat_test}
use Rattle.vkg_plan.specs.declared.plan.Plan.{Plan as PlanValue}
use Rattle.vkg_plan.specs.Plan.{Plan}
use Rattle.vkg_plan.specs.Seen.{plan_seen}
use Rattle.vkg_unions.specs.Key.{keys_of, plan_key}
use Rattle.vkg_unions.specs.SamePlan.{same_plan}
use Rattle.vkg_unions.specs.SamePlanLaw.{same_plan-is}
use Rattle.vkg_unions.proofs.Repeats.{is_among}

one-more : (a more b rest : Bool) → (b ≡ true → a ≡ true) → (more && rest) ≡ rest → ((a || more) && (b || rest)) ≡ (b || rest)
one-more true more true rest h k = refl
one-more false more true rest h k = let e = h refl in cc
one-more true more false rest h k = refl
one-more false more false rest h k = k

-- one of the numbers is that of the plan
abbrev pub has_key : List PlanValue → Plan → Bool
has_key qs p = list_any (λ k. k == plan_key 0 p) (keys_of qs)

pub among_keys : (qs : List PlanValue) (p : Plan) → (has_key qs p && is_among qs p) ≡ is_among qs p
among_keys [] p = refl
among_keys (q ∷ qs) p =
    one-more (plan_key 0 (plan_seen q) == plan_key 0 p) (has_key qs p) (same_plan (plan_seen q) p) (is_among qs p)
    (λ e. ap (λ x. plan_key 0 x == plan_key 0 p) (same_plan-is (plan_seen q) p e) ∙ eq_itself nat_test (plan_key 0 p))
    (among_keys qs p)

-- where none of the numbers is that of the plan, it is not among them
pub not_among : (qs : List PlanValue) (p : Plan) (ks : List ℕ) (k : ℕ) → ks ≡ keys_of qs → k ≡ plan_key 0 p → list_any (λ j. j == k) ks ≡ false → is_among qs p ≡ false
not_among qs p ks k e f h =
    let none : has_key qs p ≡ false = (λ i. list_any (λ j. j == sym f i) (sym e i)) ∙ h in
    sym (among_keys qs p) ∙ ap (λ b. b && is_among qs p) none

-- the numbers of the first i plans
pub keys_taken : (ks : List ℕ) (ps : List PlanValue) (i : ℕ) → ks ≡ keys_of ps → take i ks ≡ keys_of (take i ps)
keys_taken ks ps i h = ap (take i) h ∙ take-map (λ p. plan_key 0 (plan_seen p)) i ps
