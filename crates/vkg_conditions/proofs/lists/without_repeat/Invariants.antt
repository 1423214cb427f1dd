-- The members until here stay.
use Rattle.vkg_conditions.proofs.Found.{Single}
use Rattle.vkg_conditions.proofs.lists.without_repeat.Given as goal

abbrev pub invariant-loop-i : goal.invariant-loop-i
invariant-loop-i l = Single l.list l.i
