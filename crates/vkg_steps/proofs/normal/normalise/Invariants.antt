use Rattle.std.proofs.Common.{◌≡◌, length}
use Rattle.vkg_plan.specs.Seen.{plan_seen}
use Rattle.vkg_rules.specs.Everywhere.{anywhere}
use Rattle.vkg_rules.specs.Steps.{IsTyped}
use Rattle.vkg_chains.specs.Ends.{end_of}
use Rattle.vkg_chains.specs.Fix.{run}
use Rattle.std.specs.Prelude.{reverse}
use Rattle.vkg_steps.specs.Sides.{sides_seen}
use Rattle.vkg_steps.specs.Spine.{IsAround, within}
use Rattle.vkg_steps.proofs.normal.normalise.Given as goal

abbrev pub invariant-loop-place : goal.invariant-loop-place
invariant-loop-place g l =
    let whole = within (sides_seen l.around) (plan_seen l.current) in
    record {
      typed : IsTyped l.schema whole;
      rest : IsAround l.schema (g.R.Rewrite.becomes l.rule l.schema) (sides_seen l.around) (plan_seen l.current) (reverse l.place) whole;
      same : end_of (g.R.Rewrite.becomes l.rule) l.schema (plan_seen l.fn.plan) ≡ end_of (g.R.Rewrite.becomes l.rule) l.schema whole;
    }

abbrev pub decreases-loop-place : goal.decreases-loop-place
decreases-loop-place g l = length (run (anywhere (g.R.Rewrite.becomes l.rule)) l.schema (within (sides_seen l.around) (plan_seen l.current))).0
