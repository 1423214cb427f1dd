-- The join that is opened, under the condition of the first Select among its members and then its own, is what the rule makes.
use Rattle.std.proofs.Common.{◌≡◌, ◌∙◌, Some, option_map, sym, ap}
use Rattle.vkg_expr.specs.Seen.{expr_seen}
use Rattle.vkg_plan.specs.declared.plan.Plan.{Plan as PlanValue}
use Rattle.vkg_plan.specs.Seen.{plan_seen}
use Rattle.vkg_rules.specs.Places.{outcome}
use Rattle.vkg_moves.proofs.MemberParts.{member_opened}
use Rattle.vkg_moves.specs.MergeSelects.{member_condition, opened}
use Rattle.vkg_moves.proofs.merge_selects.MergeSelectsRewrite.apply_again.Goals as goal

pub returns-in-Some-clause-value : goal.returns-in-Some-clause-value
returns-in-Some-clause-value c =
    let s = c.args.schema.now in
    let p = plan_seen c.args.plan in
    let q = plan_seen c.lighter-in-Some.result.plan in
    let d = expr_seen c.in-Some.c in
    let given : member_condition s p ≡ Some d
    = sym (c.in_ok-c.ensures ∙ ap (λ (v : PlanValue). member_condition s (plan_seen v)) c.deref-2.ensures) ∙ ap (option_map expr_seen) c.in-Some.is in
    let made : q ≡ opened d p
    = ap plan_seen c.lighter-in-Some.ensures.plan ∙ c.in_ok-opened.ensures ∙ (λ i. opened (expr_seen (c.deref-in-Some.ensures i)) (plan_seen (c.into_inner-in-Some.ensures i))) in
    (λ i. (q, c.lighter-in-Some.ensures.fell i)) ∙ sym (ap (outcome p) (member_opened s p q d given made))
