use Rattle.std.proofs.Common.{◌≡◌, ◌+◌, ◌*◌, map}
use Rattle.std.specs.Prelude.{reverse}
use Rattle.vkg_plan.specs.Plan.{plans}
use Rattle.vkg_plan.specs.Seen.{plan_seen}
use Rattle.vkg_rules.specs.Parts.{AreTyped}
use Rattle.vkg_rules.specs.StepSeen.{plans_seen}
use Rattle.vkg_rules.proofs.Inside.{nodes, nodes_each}
use Rattle.vkg_steps.specs.Behind.{BehindMember}
use Rattle.vkg_steps.proofs.in_place.+in_place.Given as goal

abbrev pub decreases-step_in : goal.decreases-step_in
decreases-step_in g l = 6 * nodes (plan_seen l.plan) + 1

abbrev pub decreases-step_below : goal.decreases-step_below
decreases-step_below g l = 6 * nodes (plan_seen l.plan)

abbrev pub decreases-step_left : goal.decreases-step_left
decreases-step_left g l = 6 * nodes (plan_seen l.p) + 6 * nodes (plan_seen l.q) + 4

abbrev pub decreases-step_sides : goal.decreases-step_sides
decreases-step_sides g l = 6 * nodes (plan_seen l.p) + 6 * nodes (plan_seen l.q) + 3

abbrev pub decreases-step_right : goal.decreases-step_right
decreases-step_right g l = 6 * nodes (plan_seen l.p) + 6 * nodes (plan_seen l.q) + 2

abbrev pub decreases-step_anti : goal.decreases-step_anti
decreases-step_anti g l = 6 * nodes (plan_seen l.p) + 6 * nodes (plan_seen l.q) + 4

abbrev pub decreases-step_anti_sides : goal.decreases-step_anti_sides
decreases-step_anti_sides g l = 6 * nodes (plan_seen l.p) + 6 * nodes (plan_seen l.q) + 3

abbrev pub decreases-step_anti_right : goal.decreases-step_anti_right
decreases-step_anti_right g l = 6 * nodes (plan_seen l.p) + 6 * nodes (plan_seen l.q) + 2

abbrev pub decreases-step_list : goal.decreases-step_list
decreases-step_list g l = 6 * nodes_each (plans_seen l.ps) + 5

abbrev pub decreases-step_members : goal.decreases-step_members
decreases-step_members g l = 6 * nodes_each (plans_seen l.members.now) + 4

abbrev pub decreases-step_from : goal.decreases-step_from
decreases-step_from g l = 6 * nodes_each (plans_seen l.members.now) + 3

abbrev pub decreases-step_member : goal.decreases-step_member
decreases-step_member g l = 6 * nodes (plan_seen l.member.now) + 2

-- before the member at the loop's place nothing is left to do, and no member is another than it was
abbrev pub invariant-step_from-loop-at : goal.invariant-step_from-loop-at
invariant-step_from-loop-at g l =
    let ps = map plan_seen l.fn.members in
    record {
      behind : BehindMember (g.R.Rewrite.becomes l.rule l.schema) l.at (reverse l.below) (plans ps);
      typed : AreTyped l.schema (plans ps);
      same : map plan_seen l.members ≡ ps;
    }
