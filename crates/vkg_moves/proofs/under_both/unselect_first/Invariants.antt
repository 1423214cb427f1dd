-- No Select among the members until here, and none is another than it was.
use Rattle.std.proofs.Common.{◌≡◌}
use Rattle.vkg_moves.proofs.FirstBelow.{NoneBefore}
use Rattle.vkg_moves.proofs.under_both.unselect_first.Given as goal

abbrev pub invariant-loop-i : goal.invariant-loop-i
invariant-loop-i l =
    record {
      none : NoneBefore l.members l.i;
      same : l.members ≡ l.fn.members;
    }
