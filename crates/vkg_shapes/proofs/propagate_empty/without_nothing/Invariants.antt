-- The members until here stay.
use Rattle.vkg_shapes.proofs.Dropping.{Kept}
use Rattle.vkg_shapes.specs.PropagateEmpty.{is_nothing}
use Rattle.vkg_shapes.proofs.propagate_empty.without_nothing.Given as goal

abbrev pub invariant-loop-i : goal.invariant-loop-i
invariant-loop-i l = Kept is_nothing l.ps l.i
