-- No member until here is equal to an earlier one.
use Rattle.vkg_unions.proofs.Repeats.{Unrepeated}
use Rattle.vkg_unions.proofs.equal_members.without_repeat.Given as goal

abbrev pub invariant-loop-i : goal.invariant-loop-i
invariant-loop-i l = Unrepeated l.ps l.i
