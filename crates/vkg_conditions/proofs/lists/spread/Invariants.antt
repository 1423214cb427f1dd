-- The members until here stay.
use Rattle.vkg_conditions.proofs.Found.{Kept, nested_in}
use Rattle.vkg_conditions.proofs.lists.spread.Given as goal

abbrev pub invariant-loop-i : goal.invariant-loop-i
invariant-loop-i l = Kept (nested_in l.sort) l.list l.i
