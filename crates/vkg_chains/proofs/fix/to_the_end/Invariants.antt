-- The run from here gives what the run from the start gives, with what fell until here.
use Rattle.std.proofs.Common.{◌≡◌, length}
use Rattle.vkg_plan.specs.Seen.{plan_seen}
use Rattle.vkg_rules.specs.Steps.{IsTyped}
use Rattle.vkg_chains.specs.Fix.{foremost, run}
use Rattle.vkg_chains.proofs.fix.to_the_end.Given as goal

abbrev pub invariant-loop-fell : goal.invariant-loop-fell
invariant-loop-fell g l =
    record {
      typed : IsTyped l.schema (plan_seen l.current);
      same : (run (g.R.Rewrite.becomes l.rule) l.schema (plan_seen l.fn.current)).1 ≡ (run (g.R.Rewrite.becomes l.rule) l.schema (plan_seen l.current)).1;
      least : foremost l.fn.fell (run (g.R.Rewrite.becomes l.rule) l.schema (plan_seen l.fn.current)).0 ≡ foremost l.least (run (g.R.Rewrite.becomes l.rule) l.schema (plan_seen l.current)).0;
    }

abbrev pub decreases-loop-fell : goal.decreases-loop-fell
decreases-loop-fell g l = length (run (g.R.Rewrite.becomes l.rule) l.schema (plan_seen l.current)).0
