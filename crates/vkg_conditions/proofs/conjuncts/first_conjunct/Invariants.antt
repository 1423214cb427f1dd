-- The members until here stay.
use Rattle.vkg_conditions.proofs.Found.{Kept, one_for}
use Rattle.vkg_conditions.specs.SimplifyCondition.{same_itself}
use Rattle.vkg_conditions.proofs.conjuncts.first_conjunct.Given as goal

abbrev pub invariant-loop-i : goal.invariant-loop-i
invariant-loop-i l = Kept (one_for same_itself) l.list l.i
