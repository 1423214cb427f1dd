-- What is around the plan, and the plan within that, are the whole; the plan is less at each turn.
use Rattle.std.proofs.Common.{◌≡◌, [], true}
use Rattle.std.specs.Prelude.{reverse}
use Rattle.vkg_plan.specs.Seen.{plan_seen}
use Rattle.vkg_rules.proofs.Inside.{nodes}
use Rattle.vkg_steps.specs.Sides.{sides_seen}
use Rattle.vkg_steps.specs.Spine.{IsAround, within}
use Rattle.vkg_steps.proofs.spine.dive.Given as goal

abbrev pub invariant-loop-asked : goal.invariant-loop-asked
invariant-loop-asked g l =
    record {
      around : IsAround l.schema (g.R.Rewrite.becomes l.rule l.schema) (sides_seen l.around) (plan_seen l.plan) (reverse l.below) (within (sides_seen l.fn.around) (plan_seen l.fn.plan));
      outermost : l.is_outermost ≡ true → sides_seen l.around ≡ [];
    }

abbrev pub decreases-loop-asked : goal.decreases-loop-asked
decreases-loop-asked g l = nodes (plan_seen l.plan)
