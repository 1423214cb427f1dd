-- Of two members or more the first Unit is dropped.
use Rattle.std.proofs.Common.{◌≡◌, ◌∙◌, ap}
use Rattle.std.proofs.lemmas.Result.{IfOk-weaker}
use Rattle.std.specs.Prelude.{option_map}
use Rattle.vkg_expr.specs.Seen.{expr_seen}
use Rattle.vkg_plan.specs.Plan.{Plans, Join}
use Rattle.vkg_rules.specs.declared.rewrite.Fell.TheVariants as fell
use Rattle.vkg_rules.specs.StepSeen.{plans_seen, step_seen}
use Rattle.vkg_shapes.specs.FewMembers.{few_joined}
use Rattle.vkg_shapes.proofs.Several.{few-many}
use Rattle.vkg_shapes.proofs.few_members.few_joined.Goals as goal

pub returns-in_ok-without_unit-in-len2-up : goal.returns-in_ok-without_unit-in-len2-up
returns-in_ok-without_unit-in-len2-up c =
    let e = expr_seen c.args.c.now in
    let joined = option_map (λ (qs : Plans). (Join qs e, fell.Weight)) in
    IfOk-weaker c.rejoined.result
    (λ o. option_map step_seen o ≡ joined (option_map plans_seen c.in_ok-without_unit-in-len2-up.field-0))
    (λ o. option_map step_seen o ≡ few_joined e (plans_seen c.args.ps.now))
    (λ o i. i ∙ ap joined c.in_ok-without_unit-in-len2-up.ensures ∙ few-many e c.args.ps.now c.in-len2-up.len_at_least)
    c.rejoined.ensures
