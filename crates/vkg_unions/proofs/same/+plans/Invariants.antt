-- What is left of both lists decides.
use Rattle.std.proofs.Common.{◌+◌, ◌*◌}
use Rattle.vkg_plan.specs.Seen.{plan_seen}
use Rattle.vkg_rules.specs.StepSeen.{plans_seen}
use Rattle.vkg_rules.proofs.Inside.{nodes, nodes_each}
use Rattle.vkg_unions.proofs.SamePairs.{SameBefore}
use Rattle.vkg_unions.proofs.same.+plans.Given as goal

abbrev pub decreases-same_plan : goal.decreases-same_plan
decreases-same_plan l = 2 * nodes (plan_seen l.a.now)

abbrev pub decreases-same_plans : goal.decreases-same_plans
decreases-same_plans l = 2 * nodes_each (plans_seen l.ps.now) + 1

abbrev pub invariant-same_plans-loop-i : goal.invariant-same_plans-loop-i
invariant-same_plans-loop-i l = SameBefore l.ps l.qs l.i
