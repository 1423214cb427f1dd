-- No case until here applies.
use Rattle.vkg_plan.specs.Seen.{plan_seen}
use Rattle.vkg_conditions.proofs.Tried.{Tried}
use Rattle.vkg_conditions.proofs.simplify_condition.first_case.Given as goal

abbrev pub invariant-loop-case : goal.invariant-loop-case
invariant-loop-case l = Tried (plan_seen l.plan) l.cases l.case-index
