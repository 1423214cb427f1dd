-- The case that was tried does not apply.
use Rattle.std.proofs.Common.{◌∙◌, ◌+◌, drop, sym, ap, arith}
use Rattle.std.specs.Prelude.{option_map}
use Rattle.std.proofs.lemmas.Grind.{common_steps}
use Rattle.vkg_plan.specs.Seen.{plan_seen}
use Rattle.vkg_rules.specs.StepSeen.{step_seen}
use Rattle.vkg_conditions.specs.Cases.{first_case}
use Rattle.vkg_conditions.proofs.Tried.{first_does_not}
use Rattle.vkg_conditions.proofs.simplify_condition.first_case.Goals as goal

pub loop-case-preserved : goal.loop-case-preserved
loop-case-preserved c =
    let none = ap (option_map step_seen) (sym c.in_default.is) ∙ c.in_ok-x.ensures in
    let rest = first_does_not _ (first_case (drop (c.loop-case.case-index + 1) c.args.cases.now) (plan_seen c.args.plan.now)) none in
    grind (arith, common_steps, rest)
