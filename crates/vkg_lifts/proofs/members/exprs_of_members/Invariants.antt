-- No Project among the members until here, whose columns were counted, and the rest is typed.
use Rattle.std.proofs.Common.{drop}
use Rattle.vkg_rules.specs.Parts.{AreTyped}
use Rattle.vkg_rules.specs.StepSeen.{plans_seen}
use Rattle.vkg_lifts.proofs.FirstProject.{Closed}
use Rattle.vkg_lifts.proofs.members.exprs_of_members.Given as goal

abbrev pub invariant-loop-i : goal.invariant-loop-i
invariant-loop-i l =
    record {
      found : Closed l.schema l.ps l.i l.before;
      typed : AreTyped l.schema (plans_seen (drop l.i l.ps));
    }
