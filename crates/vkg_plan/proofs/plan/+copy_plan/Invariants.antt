-- What was copied so far is the part of the list that was passed.
use Rattle.std.proofs.Common.{◌≡◌, take}
use Rattle.vkg_plan.proofs.plan.+copy_plan.Given as goal

abbrev pub invariant-copy_plans-loop-plan : goal.invariant-copy_plans-loop-plan
invariant-copy_plans-loop-plan l = l.copies ≡ take l.plan-index l.plans
