-- The members of a union, each compared with those before it.
use Rattle.std.proofs.Common.{◌≡◌, ◌∙◌, inl, inr, ℕ, ◌+◌, ◌<◌, ◌≤◌, Bool, true, false, true≢false, ◌&&◌, List, [], ◌∷◌, ◌++◌, append-nil, append_assoc, drop, get_or, length, take, refl, sym, ap}
use Rattle.std.proofs.Math.Bool.{and-false, and-true, and_assoc}
use Rattle.std.proofs.lemmas.Bool.{cases_Bool}
use Rattle.std.proofs.lemmas.List.{take-append-drop, take_all, take_more}
use Rattle.vkg_lists.proofs.Bools.{and_parts, and_true}
use Rattle.vkg_plan.specs.declared.plan.Plan.{Plan as PlanValue}
use Rattle.vkg_plan.specs.Kinds.{Tables}
use Rattle.vkg_plan.specs.Plan.{Plan, Plans}
use Rattle.vkg_plan.specs.Seen.{plan_seen}
use Rattle.vkg_rules.specs.StepSeen.{plans_seen}
use Rattle.vkg_unique.specs.Apart.{are_apart}
use Rattle.vkg_unique.specs.Earlier.{is_apart_from_each}
use Rattle.vkg_unique.specs.Unique.{are_all_apart, are_unique, is_apart_from, is_unique}

-- both tests of the members of a union
abbrev pub are_good : Tables → Plans → Bool
are_good s ps = are_unique s ps && are_all_apart s ps

swap : (a b c d : Bool) → ((a && b) && (c && d)) ≡ ((a && c) && (b && d))
swap false b c d = refl
swap true true c d = refl
swap true false true d = refl
swap true false false d = refl

module _ (s : Tables) where
  -- what is asked of one more
  abbrev passes : Plans → Plan → Bool
  passes ps q = is_unique s q && is_apart_from_each s ps q

  unique-push : (ps : List PlanValue) (q : PlanValue) → are_unique s (plans_seen (ps ++ q ∷ [])) ≡ (are_unique s (plans_seen ps) && is_unique s (plan_seen q))
  unique-push [] q = and-true (is_unique s (plan_seen q))
  unique-push (p ∷ ps) q =
      ap (λ b. is_unique s (plan_seen p) && b) (unique-push ps q)
      ∙ sym (and_assoc (is_unique s (plan_seen p)) (are_unique s (plans_seen ps)) (is_unique s (plan_seen q)))

  from-push : (p : Plan) (ps : List PlanValue) (q : PlanValue) → is_apart_from s p (plans_seen (ps ++ q ∷ [])) ≡ (is_apart_from s p (plans_seen ps) && are_apart s p (plan_seen q))
  from-push p [] q = and-true (are_apart s p (plan_seen q))
  from-push p (r ∷ ps) q =
      ap (λ b. are_apart s p (plan_seen r) && b) (from-push p ps q)
      ∙ sym (and_assoc (are_apart s p (plan_seen r)) (is_apart_from s p (plans_seen ps)) (are_apart s p (plan_seen q)))

  apart-push : (ps : List PlanValue) (q : PlanValue) → are_all_apart s (plans_seen (ps ++ q ∷ [])) ≡ (are_all_apart s (plans_seen ps) && is_apart_from_each s (plans_seen ps) (plan_seen q))
  apart-push [] q = refl
  apart-push (p ∷ ps) q =
      (λ i. from-push (plan_seen p) ps q i && apart-push ps q i)
      ∙ swap (is_apart_from s (plan_seen p) (plans_seen ps)) (are_apart s (plan_seen p) (plan_seen q)) (are_all_apart s (plans_seen ps)) (is_apart_from_each s (plans_seen ps) (plan_seen q))

  good-push : (ps : List PlanValue) (q : PlanValue) → are_good s (plans_seen (ps ++ q ∷ [])) ≡ (are_good s (plans_seen ps) && passes (plans_seen ps) (plan_seen q))
  good-push ps q =
      (λ i. unique-push ps q i && apart-push ps q i)
      ∙ swap (are_unique s (plans_seen ps)) (is_unique s (plan_seen q)) (are_all_apart s (plans_seen ps)) (is_apart_from_each s (plans_seen ps) (plan_seen q))

  -- with more behind them they pass only if they pass alone
  good-rest : (ps qs : List PlanValue) → are_good s (plans_seen (ps ++ qs)) ≡ true → are_good s (plans_seen ps) ≡ true
  good-rest ps [] h = ap (λ l. are_good s (plans_seen l)) (sym (append-nil ps)) ∙ h
  good-rest ps (q ∷ qs) h =
      let more = good-rest (ps ++ q ∷ []) qs (ap (λ l. are_good s (plans_seen l)) (append_assoc ps (q ∷ []) qs) ∙ h) in
      (and_parts (are_good s (plans_seen ps)) (passes (plans_seen ps) (plan_seen q)) (sym (good-push ps q) ∙ more)).0

  next : (ps : List PlanValue) (i : ℕ) (x : PlanValue) → i < length ps → x ≡ get_or ps i x → are_good s (plans_seen (take (i + 1) ps)) ≡ (are_good s (plans_seen (take i ps)) && passes (plans_seen (take i ps)) (plan_seen x))
  next ps i x l e =
      ap (λ m. are_good s (plans_seen m)) (take_more ps i x l ∙ ap (λ y. take i ps ++ y ∷ []) (sym e))
      ∙ good-push (take i ps) x

  -- the members until here pass, and so does the next one
  pub good_more : (ps : List PlanValue) (i : ℕ) (x : PlanValue) → i < length ps → x ≡ get_or ps i x → are_good s (plans_seen (take i ps)) ≡ true → is_unique s (plan_seen x) ≡ true → is_apart_from_each s (plans_seen (take i ps)) (plan_seen x) ≡ true →
      are_good s (plans_seen (take (i + 1) ps)) ≡ true
  good_more ps i x l e h u a = next ps i x l e ∙ and_true (are_good s (plans_seen (take i ps))) (passes (plans_seen (take i ps)) (plan_seen x)) h (and_true (is_unique s (plan_seen x)) (is_apart_from_each s (plans_seen (take i ps)) (plan_seen x)) u a)

  -- where a member does not pass the whole does not
  fails : (ps : List PlanValue) (i : ℕ) (x : PlanValue) → i < length ps → x ≡ get_or ps i x → passes (plans_seen (take i ps)) (plan_seen x) ≡ false → are_good s (plans_seen ps) ≡ false
  fails ps i x l e f = elim (cases_Bool (are_good s (plans_seen ps))) [
    | inl t ↦
        let until = good-rest (take (i + 1) ps) (drop (i + 1) ps) (ap (λ m. are_good s (plans_seen m)) (take-append-drop (i + 1) ps) ∙ t) in
        let both = and_parts (are_good s (plans_seen (take i ps))) (passes (plans_seen (take i ps)) (plan_seen x)) (sym (next ps i x l e) ∙ until) in
        absurd (true≢false (sym both.1 ∙ f))
    | inr t ↦ t
  ]

  pub not_unique : (ps : List PlanValue) (i : ℕ) (x : PlanValue) → i < length ps → x ≡ get_or ps i x → is_unique s (plan_seen x) ≡ false → are_good s (plans_seen ps) ≡ false
  not_unique ps i x l e u = fails ps i x l e (ap (λ b. b && is_apart_from_each s (plans_seen (take i ps)) (plan_seen x)) u)

  pub not_apart : (ps : List PlanValue) (i : ℕ) (x : PlanValue) → i < length ps → x ≡ get_or ps i x → is_apart_from_each s (plans_seen (take i ps)) (plan_seen x) ≡ false → are_good s (plans_seen ps) ≡ false
  not_apart ps i x l e a = fails ps i x l e (ap (λ b. is_unique s (plan_seen x) && b) a ∙ and-false (is_unique s (plan_seen x)))

-- all members until the end
pub all_good : (s : Tables) (ps : List PlanValue) (i : ℕ) → length ps ≤ i → are_good s (plans_seen (take i ps)) ≡ true → are_good s (plans_seen ps) ≡ true
all_good s ps i l h = ap (λ m. are_good s (plans_seen m)) (sym (take_all i ps l)) ∙ h
