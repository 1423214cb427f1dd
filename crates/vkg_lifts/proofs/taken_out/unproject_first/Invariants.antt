-- No Project among the members until here, and none is another than it was.
use Rattle.std.proofs.Common.{◌≡◌}
use Rattle.vkg_lifts.proofs.FirstBelow.{NoneBefore}
use Rattle.vkg_lifts.proofs.taken_out.unproject_first.Given as goal

abbrev pub invariant-loop-i : goal.invariant-loop-i
invariant-loop-i l =
    record {
      none : NoneBefore l.members l.i;
      same : l.members ≡ l.fn.members;
    }
