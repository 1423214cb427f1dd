-- The members until here stay.
use Rattle.vkg_shapes.proofs.Dropping.{Kept}
use Rattle.vkg_shapes.specs.FewMembers.{is_unit}
use Rattle.vkg_shapes.proofs.few_members.without_unit.Given as goal

abbrev pub invariant-loop-i : goal.invariant-loop-i
invariant-loop-i l = Kept is_unit l.ps l.i
