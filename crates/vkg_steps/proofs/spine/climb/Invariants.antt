-- In the plan there is no step, and with what is around it it is the whole; that is one less at each turn.
use Rattle.std.proofs.Common.{◌≡◌, None, length}
use Rattle.vkg_plan.specs.Seen.{plan_seen}
use Rattle.vkg_rules.specs.Everywhere.{everywhere}
use Rattle.vkg_steps.specs.Sides.{sides_seen}
use Rattle.vkg_steps.specs.Spine.{AllRest, within}
use Rattle.vkg_steps.proofs.spine.climb.Given as goal

abbrev pub invariant-loop-side : goal.invariant-loop-side
invariant-loop-side g l =
    record {
      whole : within (sides_seen l.around) (plan_seen l.plan) ≡ within (sides_seen l.fn.around) (plan_seen l.fn.plan);
      rest : AllRest l.schema (g.R.Rewrite.becomes l.rule l.schema) (sides_seen l.around) (plan_seen l.plan);
      none : everywhere (g.R.Rewrite.becomes l.rule l.schema) (plan_seen l.plan) ≡ None;
    }

abbrev pub decreases-loop-side : goal.decreases-loop-side
decreases-loop-side g l = length l.around
