-- The expressions stand above the node that is opened, as the rule has it.
use Rattle.std.proofs.Common.{◌≡◌, ◌∙◌, Some, map, option_map, sym, ap}
use Rattle.vkg_expr.specs.Seen.{expr_seen}
use Rattle.vkg_plan.specs.declared.plan.Plan.{Plan as PlanValue}
use Rattle.vkg_plan.specs.Plan.{Project}
use Rattle.vkg_plan.specs.Seen.{plan_seen}
use Rattle.vkg_rules.specs.Places.{outcome}
use Rattle.vkg_lifts.proofs.LiftParts.{lift_above}
use Rattle.vkg_lifts.specs.BelowProjects.{exprs_above, opened}
use Rattle.vkg_lifts.specs.LiftedSeen.{exprs_seen}
use Rattle.vkg_lifts.proofs.lift_projects.LiftProjectsRewrite.apply_again.Goals as goal

pub returns-in_ok-lifted-in-Some-clause-value : goal.returns-in_ok-lifted-in-Some-clause-value
returns-in_ok-lifted-in-Some-clause-value c =
    let s = c.args.schema.now in
    let p = plan_seen c.args.plan in
    let q = plan_seen c.lighter.result.plan in
    let es = map expr_seen c.in-Some.es in
    let given : exprs_above s p ≡ Some es
    = sym (c.in_ok-exprs_above.ensures ∙ ap (λ (v : PlanValue). exprs_above s (plan_seen v)) c.deref.ensures) ∙ ap (option_map exprs_seen) c.in-Some.is in
    let made : q ≡ Project es (opened es p)
    = ap plan_seen c.lighter.ensures.plan ∙ c.in_ok-lifted-in-Some.ensures ∙ ap (λ (v : PlanValue). Project es (opened es (plan_seen v))) c.into_inner.ensures in
    (λ i. (q, c.lighter.ensures.fell i)) ∙ sym (ap (outcome p) (lift_above s p q es given made))
