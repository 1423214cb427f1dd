-- Each step is one of the run; where there is none, the run is at its end.
use Rattle.std.proofs.Common.{◌≡◌, ℕ, List, Option, Some, None, length, refl, sym, ap, ◌∙◌, subst, arith}
use Rattle.std.specs.Prelude.{reverse}
use Rattle.vkg_schema.specs.Meets.{IsWellFormed}
use Rattle.vkg_plan.specs.Kinds.{Tables}
use Rattle.vkg_plan.specs.Plan.{Plan}
use Rattle.vkg_plan.specs.Seen.{plan_seen}
use Rattle.vkg_rules.specs.declared.rewrite.Fell.{Fell}
use Rattle.vkg_rules.specs.Everywhere.{anywhere, everywhere}
use Rattle.vkg_rules.specs.EverywhereLaw.{anywhere-falls, anywhere-keeps}
use Rattle.vkg_rules.specs.Steps.{FallsAll, IsTyped, Keeps, KeepsAll, Rule}
use Rattle.vkg_chains.specs.Ends.{IsEndOf, Settled, end_of}
use Rattle.vkg_chains.specs.Fix.{more, run}
use Rattle.vkg_chains.specs.FixLaw.{run-none, run-some, typed-after}
use Rattle.vkg_chains.proofs.EndLemmas.{end-is, end-keeps, end-settled}
use Rattle.vkg_rules.specs.Places.{outcome}
use Rattle.vkg_steps.specs.Behind.{Behind}
use Rattle.vkg_steps.specs.declared.spine.Side.{Side as SideValue}
use Rattle.vkg_steps.specs.Sides.{sides_seen}
use Rattle.vkg_steps.specs.Spine.{IsAround, IsReady, within}
use Rattle.vkg_rules.proofs.Outcomes.{outcome-none, outcome-some}
use Rattle.vkg_steps.proofs.PlaceLemmas.{nothing_behind}
use Rattle.vkg_steps.proofs.normal.normalise.Goals as goal

module _ (r : Rule) (keeps : KeepsAll r) (falls : FallsAll r) (s : Tables) (form : IsWellFormed s) (p q : Plan) (t : IsTyped s p) where
  at_step : (f : Fell) (o : Option Fell) → o ≡ Some f → (q, o) ≡ outcome p (everywhere (r s) p) → (run (anywhere r) s p ≡ more f (run (anywhere r) s q)) × IsTyped s q
  at_step f o is e =
      let step = outcome-some p q f (everywhere (r s) p) (ap (λ (x : Option Fell). (q, x)) (sym is) ∙ e) in
      let k = anywhere-keeps r keeps falls in
      let l = anywhere-falls r keeps falls in
      (run-some (anywhere r) k l s form p (q, f) t step, typed-after (anywhere r) k l s form p (q, f) t step)

  at_last : (o : Option Fell) → o ≡ None → (q, o) ≡ outcome p (everywhere (r s) p) → q ≡ end_of r s p
  at_last o is e =
      let none = outcome-none p q (everywhere (r s) p) (ap (λ (x : Option Fell). (q, x)) (sym is) ∙ e) in
      none.1 ∙ sym (ap (λ y. y.1) (run-none (anywhere r) (anywhere-keeps r keeps falls) (anywhere-falls r keeps falls) s form p t none.0))

pub loop-place-smaller : goal.loop-place-smaller
loop-place-smaller g c =
    let a = c.args.rule.now in
    let step = at_step (g.R.Rewrite.becomes a) (g.met.R.Rewrite.keeps a) (g.met.R.Rewrite.falls a) c.args.schema.now c.tables-over.ensures.form
    (within (sides_seen c.loop-place.around) (plan_seen c.loop-place.current)) (within (sides_seen c.step_within.new.around) (plan_seen c.in_ok-next.field-0.plan))
    c.loop-place.invariant.typed c.in-Some.field-0 c.in_ok-next.field-0.fell c.in-Some.is c.in_ok-next.ensures.0 in
    omega (arith, ap (λ y. length y.0) step.0)

pub loop-place-preserved : goal.loop-place-preserved
loop-place-preserved g c =
    let a = c.args.rule.now in
    let r = g.R.Rewrite.becomes a in
    let s = c.args.schema.now in
    let x = c.in_ok-next.field-0 in
    let sides = sides_seen c.step_within.new.around in
    let step = at_step r (g.met.R.Rewrite.keeps a) (g.met.R.Rewrite.falls a) s c.tables-over.ensures.form
    (within (sides_seen c.loop-place.around) (plan_seen c.loop-place.current)) (within sides (plan_seen x.plan))
    c.loop-place.invariant.typed c.in-Some.field-0 x.fell c.in-Some.is c.in_ok-next.ensures.0 in
    let ready = subst (λ (o : Option Fell). IsReady o s (r s) sides (plan_seen x.plan) (reverse x.place)) c.in-Some.is c.in_ok-next.ensures.1 in
    record { typed = step.1; rest = (refl, ready.0, ready.1); same = c.loop-place.invariant.same ∙ ap (λ y. y.1) step.0 }

pub returns-in_default-clause-value : goal.returns-in_default-clause-value
returns-in_default-clause-value g c =
    let a = c.args.rule.now in
    let r = g.R.Rewrite.becomes a in
    let s = c.args.schema.now in
    let x = c.in_ok-next.field-0 in
    let sides = sides_seen c.step_within.new.around in
    let none = subst (λ (o : Option Fell). IsReady o s (r s) sides (plan_seen x.plan) (reverse x.place)) c.in_default.is c.in_ok-next.ensures.1 in
    let last = at_last r (g.met.R.Rewrite.keeps a) (g.met.R.Rewrite.falls a) s c.tables-over.ensures.form
    (within (sides_seen c.loop-place.around) (plan_seen c.loop-place.current)) (within sides (plan_seen x.plan))
    c.loop-place.invariant.typed x.fell c.in_default.is c.in_ok-next.ensures.0 in
    sym (ap (λ (xs : List Plan). within xs (plan_seen x.plan)) none) ∙ last ∙ sym c.loop-place.invariant.same

pub returns-in_default-clause-end : goal.returns-in_default-clause-end
returns-in_default-clause-end g c =
    let a = c.args.rule.now in
    let r = g.R.Rewrite.becomes a in
    let s = c.args.schema.now in
    let p = plan_seen c.args.plan in
    subst (IsEndOf r s p) (sym (returns-in_default-clause-value g c))
    (end-is r (g.met.R.Rewrite.keeps a) (g.met.R.Rewrite.falls a) s c.tables-over.ensures.form p c.requires)

pub returns-in_default-clause-settled : goal.returns-in_default-clause-settled
returns-in_default-clause-settled g c =
    let a = c.args.rule.now in
    let r = g.R.Rewrite.becomes a in
    let s = c.args.schema.now in
    let p = plan_seen c.args.plan in
    subst (Settled (r s)) (sym (returns-in_default-clause-value g c))
    (end-settled r (g.met.R.Rewrite.keeps a) (g.met.R.Rewrite.falls a) s c.tables-over.ensures.form p c.requires)

pub returns-in_default-clause-keeps : goal.returns-in_default-clause-keeps
returns-in_default-clause-keeps g c =
    let a = c.args.rule.now in
    let r = g.R.Rewrite.becomes a in
    let s = c.args.schema.now in
    let p = plan_seen c.args.plan in
    subst (Keeps s p) (sym (returns-in_default-clause-value g c))
    (end-keeps r (g.met.R.Rewrite.keeps a) (g.met.R.Rewrite.falls a) s c.tables-over.ensures.form p c.requires)

pub loop-place-init : goal.loop-place-init
loop-place-init g c =
    let r = g.R.Rewrite.becomes c.args.rule.now in
    let s = c.args.schema.now in
    let p = plan_seen c.args.plan in
    let around = subst (λ (l : List SideValue). IsAround s (r s) (sides_seen l) p (reverse c.new-place.result) (within (sides_seen l) p)) (sym c.new-around.ensures)
    (refl, tt, subst (λ (n : List ℕ). Behind (r s) (reverse n) p) (sym c.new-place.ensures) (nothing_behind (r s) p)) in
    record {
      typed = subst (λ (l : List SideValue). IsTyped s (within (sides_seen l) p)) (sym c.new-around.ensures) c.requires;
      rest = around;
      same = ap (λ (l : List SideValue). end_of r s (within (sides_seen l) p)) (sym c.new-around.ensures);
    }
