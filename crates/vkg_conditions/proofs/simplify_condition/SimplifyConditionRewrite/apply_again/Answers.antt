-- Where the plan changed below its first node, its own expressions are what they were.
use Rattle.std.proofs.Common.{ℕ, List, subst, ap}
use Rattle.std.specs.Prelude.{reverse}
use Rattle.vkg_plan.specs.Seen.{plan_seen}
use Rattle.vkg_rules.specs.Places.{DidNotApply}
use Rattle.vkg_shapes.proofs.Told.{stayed}
use Rattle.vkg_conditions.proofs.Told.{condition-stays}
use Rattle.vkg_conditions.specs.SimplifyCondition.{simplify_condition}
use Rattle.vkg_conditions.proofs.simplify_condition.SimplifyConditionRewrite.apply_again.Goals as goal

pub returns-in-Some-clause-value : goal.returns-in-Some-clause-value
returns-in-Some-clause-value c =
    let s = c.args.schema.now in
    let p = plan_seen c.args.plan in
    let turn = c.in-Some.field-0 in
    let before = subst (λ (path : List ℕ). DidNotApply (simplify_condition s) path p) c.in-Some.ensures c.requires.before in
    stayed p (plan_seen c.unchanged.result.plan) c.unchanged.result.fell (simplify_condition s p) (ap plan_seen c.unchanged.ensures.plan) c.unchanged.ensures.fell
    (condition-stays s turn.0 (reverse turn.1.now) p before)
