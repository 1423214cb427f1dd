-- A plan that has a condition is changed by its condition alone.
use Rattle.std.proofs.Common.{◌∙◌, ap}
use Rattle.std.specs.Prelude.{option_map}
use Rattle.std.proofs.lemmas.Result.{IfOk-weaker}
use Rattle.vkg_expr.specs.Seen.{expr_seen}
use Rattle.vkg_plan.specs.Seen.{plan_seen}
use Rattle.vkg_rules.specs.Places.{outcome}
use Rattle.vkg_rules.specs.declared.rewrite.Fell.TheVariants as fell
use Rattle.vkg_conditions.specs.NodeCondition.{conditioned}
use Rattle.vkg_sure.specs.KnownMember.{known_member}
use Rattle.vkg_sure.proofs.InCondition.{AreAs, known_member_again}
use Rattle.vkg_sure.proofs.known_member.KnownMemberRewrite.apply_again.Goals as goal

pub returns-then-has_condition-clause-value : goal.returns-then-has_condition-clause-value
returns-then-has_condition-clause-value c =
    let s = c.args.schema.now in
    let p = plan_seen c.args.plan in
    let changed = option_map expr_seen c.in_ok-c.c in
    IfOk-weaker c.conditioned.result
    (λ x. AreAs (plan_seen x.plan, x.fell) (outcome p (conditioned fell.Size p changed)))
    (λ x. AreAs (plan_seen x.plan, x.fell) (outcome p (known_member s p)))
    (λ x h. h ∙ ap (outcome p) (
    known_member_again s c.args.plan c.deref.result.now c.deref-then-has_condition.result.now c.in_ok-c.c c.has_condition.result c.deref.ensures c.deref-then-has_condition.ensures c.has_condition.ensures
    c.if-has_condition.true c.in_ok-c.ensures
    ))
    c.conditioned.ensures.value
