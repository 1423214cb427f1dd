-- What was copied so far is the part of the list that was passed.
use Rattle.std.proofs.Common.{◌≡◌, take}
use Rattle.vkg_expr.proofs.expr.+copy_expr.Given as goal

abbrev pub invariant-copy_exprs-loop-e : goal.invariant-copy_exprs-loop-e
invariant-copy_exprs-loop-e l = l.copies ≡ take l.e-index l.list
