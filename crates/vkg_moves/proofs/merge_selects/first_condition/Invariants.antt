-- No Select among the members until here, whose columns were counted, and the rest is typed.
use Rattle.std.proofs.Common.{length, drop}
use Rattle.vkg_rules.specs.Parts.{AreTyped}
use Rattle.vkg_rules.specs.StepSeen.{plans_seen}
use Rattle.vkg_moves.proofs.FirstSelect.{Passed}
use Rattle.vkg_moves.proofs.merge_selects.first_condition.Given as goal

abbrev pub invariant-loop-i : goal.invariant-loop-i
invariant-loop-i l =
    record {
      found : Passed l.schema l.ps l.i (length l.before);
      typed : AreTyped l.schema (plans_seen (drop l.i l.ps));
    }
