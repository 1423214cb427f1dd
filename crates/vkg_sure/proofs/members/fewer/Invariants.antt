-- The members until here stay.
use Rattle.vkg_sure.proofs.Found.{Kept}
use Rattle.vkg_sure.proofs.members.fewer.Given as goal

abbrev pub invariant-loop-i : goal.invariant-loop-i
invariant-loop-i l = Kept l.own l.list l.i
