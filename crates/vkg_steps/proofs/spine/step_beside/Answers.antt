-- A projection of a plan in which there is no step has none either.
use Rattle.std.proofs.Common.{◌≡◌, ◌∙◌, None, map, sym, ap}
use Rattle.vkg_expr.specs.Seen.{expr_seen}
use Rattle.vkg_plan.specs.declared.plan.Plan.{Plan as PlanValue}
use Rattle.vkg_plan.specs.Plan.{Project}
use Rattle.vkg_plan.specs.Seen.{plan_seen}
use Rattle.vkg_rules.specs.Everywhere.{everywhere}
use Rattle.vkg_steps.specs.Outcomes.{IsStep}
use Rattle.vkg_steps.specs.Sides.{side_seen}
use Rattle.vkg_steps.specs.Spine.{over}
use Rattle.vkg_steps.proofs.OutcomeLemmas.{told}
use Rattle.vkg_steps.proofs.PlaceLemmas.{nothing_behind}
use Rattle.vkg_steps.proofs.SpineLemmas.{over-none, rests-here, settled-step}
use Rattle.vkg_steps.proofs.spine.step_beside.Goals as goal

pub step_right-requires-clause-behind : goal.step_right-requires-clause-behind
step_right-requires-clause-behind g c = nothing_behind (g.R.Rewrite.becomes c.args.rule.now c.args.schema.now) (plan_seen c.in-Joined.q)

pub returns-in-Projected : goal.returns-in-Projected
returns-in-Projected g c =
    let s = c.args.schema.now in
    let r = g.R.Rewrite.becomes c.args.rule.now s in
    let p = plan_seen c.args.plan in
    let n = over (side_seen c.args.side) p in
    let es = map expr_seen c.in-Projected.es in
    let u = c.unstepped.result in
    let node : n ≡ Project es p = ap (λ v. over (side_seen v) p) c.in-Projected.is in
    let none : everywhere r n ≡ None = ap (everywhere r) node ∙ over-none s r es p (sym (ap r node) ∙ rests-here s r n c.requires.rest) c.requires.none in
    let same : Project es (plan_seen u.plan) ≡ n = ap (λ (v : PlanValue). Project es (plan_seen v)) c.unstepped.ensures.plan ∙ sym node in
    told (λ z k m. IsStep r n z k m) (λ y. plan_seen y.plan) (λ y. y.fell) (λ y. y.place) (Project es (plan_seen u.plan)) u.fell u.place c.projected.result
    c.projected.ensures.plan c.projected.ensures.fell c.projected.ensures.place
    (settled-step s r n (Project es (plan_seen u.plan)) u.fell u.place none same c.unstepped.ensures.fell c.unstepped.ensures.place)
