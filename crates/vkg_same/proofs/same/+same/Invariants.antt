-- The lists are as what is left of them.
use Rattle.vkg_same.proofs.SameLists.{SameFrom}
use Rattle.vkg_same.proofs.same.+same.Given as goal

abbrev pub invariant-same_exprs-loop-k : goal.invariant-same_exprs-loop-k
invariant-same_exprs-loop-k l = SameFrom l.a l.b l.k
