-- Where the rule rests one side more is around the plan; else the plan is changed, or a part of it that is no such side.
use Rattle.std.proofs.Common.{◌≡◌, ◌∙◌, Option, Some, sym, ap, subst}
use Rattle.std.specs.Prelude.{IfOk, reverse}
use Rattle.std.proofs.lemmas.Result.{IfOk-weaker}
use Rattle.vkg_plan.specs.Plan.{Plan}
use Rattle.vkg_plan.specs.Seen.{plan_seen}
use Rattle.vkg_rules.specs.declared.rewrite.Fell.{Fell}
use Rattle.vkg_rules.specs.Steps.{IsTyped}
use Rattle.vkg_rules.proofs.Outcomes.{outcome-none, outcome-some}
use Rattle.vkg_steps.specs.Outcomes.{IsInside, IsNext}
use Rattle.vkg_steps.specs.Sides.{sides_seen}
use Rattle.vkg_steps.specs.Spine.{GoesDown, HasStepped, IsOpened, within}
use Rattle.vkg_steps.proofs.OutcomeLemmas.{at_root, from_inside, told_next}
use Rattle.vkg_steps.proofs.PlaceLemmas.{here}
use Rattle.vkg_steps.proofs.SpineLemmas.{gone-down, not-so, typed-within}
use Rattle.vkg_steps.proofs.spine.dive.Goals as goal

pub apply_again-requires-clause-typed : goal.apply_again-requires-clause-typed
apply_again-requires-clause-typed g c =
    let s = c.args.schema.now in
    typed-within s (sides_seen c.loop-asked.around) (plan_seen c.loop-asked.plan) (subst (IsTyped s) (sym c.loop-asked.invariant.around.0) c.requires.typed)

pub apply_again-requires-clause-before : goal.apply_again-requires-clause-before
apply_again-requires-clause-before g c =
    here (g.R.Rewrite.becomes c.args.rule.now c.args.schema.now) (reverse c.loop-asked.below.now) (plan_seen c.loop-asked.plan) c.loop-asked.invariant.around.2

pub returns-in-Some : goal.returns-in-Some
returns-in-Some g c =
    let s = c.args.schema.now in
    let r = g.R.Rewrite.becomes c.args.rule.now s in
    let xs = sides_seen c.loop-asked.around in
    let whole = within (sides_seen c.args.around.now) (plan_seen c.args.plan) in
    let p = plan_seen c.loop-asked.plan in
    let path = reverse c.loop-asked.below.now in
    let asked = c.in_ok-asked.asked in
    let q = plan_seen asked.plan in
    let f = c.in-Some.field-0 in
    let e = outcome-some p q f (r p) (ap (λ (o : Option Fell). (q, o)) (sym c.in-Some.is) ∙ c.in_ok-asked.ensures.value) in
    told_next (λ z k n. HasStepped s r whole xs z k n) (λ n. IsNext path asked.dropped (reverse n)) (λ y. plan_seen y.plan) (λ y. y.fell) (λ y. y.place) q (Some f) c.changed.result
    (IfOk-weaker c.changed.result (λ y. y.plan ≡ asked.plan) (λ y. plan_seen y.plan ≡ q) (λ y h. ap plan_seen h) c.changed.ensures.plan)
    (subst (λ (o : Option Fell). IfOk c.changed.result (λ y. y.fell ≡ o)) c.in-Some.is c.changed.ensures.fell)
    c.changed.ensures.place
    (λ n h. (p, c.loop-asked.invariant.around.0, c.loop-asked.invariant.around.1, at_root r path (reverse n) asked.dropped p q f e c.loop-asked.invariant.around.2 c.in_ok-asked.ensures.dropped h))

pub loop-asked-smaller : goal.loop-asked-smaller
loop-asked-smaller g c =
    let s = c.args.schema.now in
    let r = g.R.Rewrite.becomes c.args.rule.now s in
    let xs = sides_seen c.loop-asked.around in
    let ys = sides_seen c.opened.new.around in
    let whole = within (sides_seen c.args.around.now) (plan_seen c.args.plan) in
    let p = plan_seen c.loop-asked.plan in
    let l = plan_seen c.in_ok-plan.plan in
    let q = plan_seen c.in_ok-asked.asked.plan in
    let path = reverse c.loop-asked.below.now in
    let below = reverse c.in-Some-way_down.next.now in
    let o = c.loop-asked.is_outermost in
    let same = (outcome-none p q (r p) (ap (λ (f : Option Fell). (q, f)) (sym c.in_default.is) ∙ c.in_ok-asked.ensures.value)).1 in
    (gone-down s r o xs ys p l whole path below c.loop-asked.invariant.outermost c.loop-asked.invariant.around
    (subst (λ (v : Plan). GoesDown s r o path below v) (ap plan_seen c.deref.ensures ∙ same) c.in-Some-way_down.ensures)
    (subst (λ (v : Plan). IsOpened xs v ys l) (ap plan_seen c.into_inner-in-loop-asked.ensures ∙ same) c.in_ok-plan.ensures)).1

pub loop-asked-preserved : goal.loop-asked-preserved
loop-asked-preserved g c =
    let s = c.args.schema.now in
    let r = g.R.Rewrite.becomes c.args.rule.now s in
    let xs = sides_seen c.loop-asked.around in
    let ys = sides_seen c.opened.new.around in
    let whole = within (sides_seen c.args.around.now) (plan_seen c.args.plan) in
    let p = plan_seen c.loop-asked.plan in
    let l = plan_seen c.in_ok-plan.plan in
    let q = plan_seen c.in_ok-asked.asked.plan in
    let path = reverse c.loop-asked.below.now in
    let below = reverse c.in-Some-way_down.next.now in
    let o = c.loop-asked.is_outermost in
    let same = (outcome-none p q (r p) (ap (λ (f : Option Fell). (q, f)) (sym c.in_default.is) ∙ c.in_ok-asked.ensures.value)).1 in
    record {
      around =
          (gone-down s r o xs ys p l whole path below c.loop-asked.invariant.outermost c.loop-asked.invariant.around
          (subst (λ (v : Plan). GoesDown s r o path below v) (ap plan_seen c.deref.ensures ∙ same) c.in-Some-way_down.ensures)
          (subst (λ (v : Plan). IsOpened xs v ys l) (ap plan_seen c.into_inner-in-loop-asked.ensures ∙ same) c.in_ok-plan.ensures)).0;
      outermost = λ h. not-so h;
    }

pub loop-asked-init : goal.loop-asked-init
loop-asked-init g c = record { around = c.requires.around; outermost = λ h. ap sides_seen (c.is_empty-is_outermost.ensures.0 h) }

-- ---- where the rule does not rest

pub way_down-requires-clause-typed : goal.way_down-requires-clause-typed
way_down-requires-clause-typed g c =
    let s = c.args.schema.now in
    let r = g.R.Rewrite.becomes c.args.rule.now s in
    let p = plan_seen c.loop-asked.plan in
    let q = plan_seen c.in_ok-asked.asked.plan in
    let same = (outcome-none p q (r p) (ap (λ (f : Option Fell). (q, f)) (sym c.in_default.is) ∙ c.in_ok-asked.ensures.value)).1 in
    subst (IsTyped s) (sym (ap plan_seen c.deref.ensures ∙ same)) (typed-within s (sides_seen c.loop-asked.around) p (subst (IsTyped s) (sym c.loop-asked.invariant.around.0) c.requires.typed))

pub step_below-requires-clause-typed : goal.step_below-requires-clause-typed
step_below-requires-clause-typed g c =
    let s = c.args.schema.now in
    let r = g.R.Rewrite.becomes c.args.rule.now s in
    let p = plan_seen c.loop-asked.plan in
    let q = plan_seen c.in_ok-asked.asked.plan in
    let same = (outcome-none p q (r p) (ap (λ (f : Option Fell). (q, f)) (sym c.in_default.is) ∙ c.in_ok-asked.ensures.value)).1 in
    subst (IsTyped s) (sym (ap plan_seen c.into_inner.ensures ∙ same)) (typed-within s (sides_seen c.loop-asked.around) p (subst (IsTyped s) (sym c.loop-asked.invariant.around.0) c.requires.typed))

pub returns-in_default-way_down : goal.returns-in_default-way_down
returns-in_default-way_down g c =
    let s = c.args.schema.now in
    let r = g.R.Rewrite.becomes c.args.rule.now s in
    let xs = sides_seen c.loop-asked.around in
    let whole = within (sides_seen c.args.around.now) (plan_seen c.args.plan) in
    let p = plan_seen c.loop-asked.plan in
    let q = plan_seen c.in_ok-asked.asked.plan in
    let v = plan_seen c.into_inner.result in
    let n = outcome-none p q (r p) (ap (λ (f : Option Fell). (q, f)) (sym c.in_default.is) ∙ c.in_ok-asked.ensures.value) in
    let same : v ≡ p = ap plan_seen c.into_inner.ensures ∙ n.1 in
    IfOk-weaker c.step_below.result (λ y. IsInside r v (plan_seen y.plan) y.fell y.place) (λ y. HasStepped s r whole xs (plan_seen y.plan) y.fell y.place)
    (λ y h. (p, c.loop-asked.invariant.around.0, c.loop-asked.invariant.around.1, from_inside r p (plan_seen y.plan) y.fell y.place n.0 (subst (λ (z : Plan). IsInside r z (plan_seen y.plan) y.fell y.place) same h)))
    c.step_below.ensures
