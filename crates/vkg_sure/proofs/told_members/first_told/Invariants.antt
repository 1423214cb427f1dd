-- The members until here stay.
use Rattle.vkg_conditions.proofs.Found.{Kept, one_for}
use Rattle.vkg_sure.specs.KnownMember.{told_in}
use Rattle.vkg_sure.proofs.told_members.first_told.Given as goal

abbrev pub invariant-loop-i : goal.invariant-loop-i
invariant-loop-i l = Kept (one_for (told_in l.column)) l.list l.i
