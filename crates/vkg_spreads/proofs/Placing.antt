-- Another plan in the place of the first union of a list, and over each of a list.
use Rattle.std.proofs.Common.{◌≡◌, ◌∙◌, ℕ, ◌+◌, ◌<◌, ◌≤◌, Bool, true, false, List, [], ◌∷◌, ◌++◌, map, take, drop, length, get_or, refl, sym, ap, append-nil}
use Rattle.std.specs.Prelude.{is_some, if◌then◌else◌}
use Rattle.std.proofs.lemmas.List.{take_all, drop_all}
use Rattle.vkg_plan.specs.declared.plan.Plan.{Plan as PlanValue}
use Rattle.vkg_plan.specs.Plan.{Plan, Plans, More, plans}
use Rattle.vkg_plan.specs.Seen.{plan_seen}
use Rattle.vkg_rules.specs.StepSeen.{plans_seen}
use Rattle.vkg_rules.proofs.Inside.{after_all}
use Rattle.vkg_rules.proofs.Members.{after_seen, drop_here, seen_more}
use Rattle.vkg_spreads.specs.DistributeUnion.{in_place, over, over_each, union_members}

-- each of a list with a node over it is the node over each
pub each_over : (node : Plan) (done us : List PlanValue) → map plan_seen done ≡ map (λ u. over node (plan_seen u)) us → plans_seen done ≡ over_each node (plans_seen us)
each_over node done us h = ap plans h ∙ listed us
  where
    listed : (us : List PlanValue) → plans (map (λ u. over node (plan_seen u)) us) ≡ over_each node (plans_seen us)
    listed [] = refl
    listed (u ∷ us) = ap (More (over node (plan_seen u))) (listed us)

after_one : (ps : List Plan) (p : Plan) (qs : Plans) → after_all ps (More p qs) ≡ after_all (ps ++ p ∷ []) qs
after_one [] p qs = refl
after_one (q ∷ ps) p qs = ap (More q) (after_one ps p qs)

module _ (x : Plan) where
  -- the members before i stay
  abbrev pub Staying : List PlanValue → ℕ → Type 0
  Staying ps i = in_place x (plans_seen ps) ≡ after_all (map plan_seen (take i ps)) (in_place x (plans_seen (drop i ps)))

  abbrev first_or : Bool → Plan → Plans → Plans
  first_or b p ps = if b then More x ps else More p (in_place x ps)

  staying-here : (ps : List PlanValue) (i : ℕ) (p : PlanValue) (b : Bool) → i < length ps → p ≡ get_or ps i p → is_some (union_members (plan_seen p)) ≡ b → Staying ps i →
      in_place x (plans_seen ps) ≡ after_all (map plan_seen (take i ps)) (first_or b (plan_seen p) (plans_seen (drop (i + 1) ps)))
  staying-here ps i p b below is h k =
      k
      ∙ ap (λ l. after_all (map plan_seen (take i ps)) (in_place x (plans_seen l))) (drop_here ps i p below is)
      ∙ ap (λ d. after_all (map plan_seen (take i ps)) (first_or d (plan_seen p) (plans_seen (drop (i + 1) ps)))) h

  pub union_here : (ps : List PlanValue) (i : ℕ) (p q : PlanValue) (r : List PlanValue) → i < length ps → p ≡ get_or ps i p → is_some (union_members (plan_seen p)) ≡ true → plan_seen q ≡ x →
      r ≡ take i ps ++ q ∷ drop (i + 1) ps → Staying ps i → plans_seen r ≡ in_place x (plans_seen ps)
  union_here ps i p q r below is h same new k =
      let rest = drop (i + 1) ps in
      ap plans_seen new
      ∙ sym (after_seen (take i ps) (q ∷ rest))
      ∙ ap (λ y. after_all (map plan_seen (take i ps)) (More y (plans_seen rest))) same
      ∙ sym (staying-here ps i p true below is h k)

  pub no_union_here : (ps : List PlanValue) (i : ℕ) (p : PlanValue) → i < length ps → p ≡ get_or ps i p → is_some (union_members (plan_seen p)) ≡ false → Staying ps i → Staying ps (i + 1)
  no_union_here ps i p below is h k =
      let rest = in_place x (plans_seen (drop (i + 1) ps)) in
      staying-here ps i p false below is h k
      ∙ after_one (map plan_seen (take i ps)) (plan_seen p) rest
      ∙ ap (λ l. after_all l rest) (sym (seen_more ps i p below is))

  pub all_stay : (ps : List PlanValue) (i : ℕ) → length ps ≤ i → Staying ps i → plans_seen ps ≡ in_place x (plans_seen ps)
  all_stay ps i h k =
      sym (k
      ∙ (λ j. after_all (map plan_seen (take_all i ps h j)) (in_place x (plans_seen (drop_all i ps h j))))
      ∙ after_seen ps []
      ∙ ap plans_seen (append-nil ps))
