-- The members until here stay.
use Rattle.vkg_conditions.proofs.Found.{Kept, gone_if}
use Rattle.vkg_conditions.proofs.lists.without_truth.Given as goal

abbrev pub invariant-loop-i : goal.invariant-loop-i
invariant-loop-i l = Kept (gone_if l.truth) l.list l.i
