-- A step in the plan within the sides is one of the whole.
use Rattle.std.proofs.Common.{◌≡◌, Option, subst}
use Rattle.std.specs.Prelude.{IfOk, reverse}
use Rattle.vkg_plan.specs.Seen.{plan_seen}
use Rattle.vkg_rules.specs.declared.rewrite.Fell.{Fell}
use Rattle.vkg_steps.specs.Sides.{sides_seen}
use Rattle.vkg_steps.specs.Spine.{within}
use Rattle.vkg_steps.proofs.SpineLemmas.{some-known, step-told}
use Rattle.vkg_steps.proofs.spine.step_within.Goals as goal

pub returns-in-Some : goal.returns-in-Some
returns-in-Some g c =
    let a = c.args.rule.now in
    let r = g.R.Rewrite.becomes a in
    let s = c.args.schema.now in
    let whole = within (sides_seen c.args.around.now) (plan_seen c.args.plan) in
    let xs = sides_seen c.dive.new.around in
    let x = c.in_ok-stepped.stepped in
    let q = plan_seen x.plan in
    let f = c.in-Some.field-0 in
    let k = some-known r (g.met.R.Rewrite.keeps a) (g.met.R.Rewrite.falls a) s c.requires.form whole xs q f x.fell x.place c.requires.typed c.in-Some.is c.in_ok-stepped.ensures in
    step-told s (r s) whole xs (λ y. plan_seen y.plan) (λ y. y.fell) (λ y. reverse y.place) k.0 q f (reverse x.place) (sides_seen c.surface.new.around) c.surface.result k.1 k.2 k.3 c.surface.ensures.raised
    (subst (λ (o : Option Fell). IfOk c.surface.result (λ y. y.fell ≡ o)) c.in-Some.is c.surface.ensures.fell)
