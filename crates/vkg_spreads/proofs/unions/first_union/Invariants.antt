-- None until here is a union.
use Rattle.vkg_spreads.proofs.Finding.{NotFound}
use Rattle.vkg_spreads.proofs.unions.first_union.Given as goal

abbrev pub invariant-loop-p : goal.invariant-loop-p
invariant-loop-p l = NotFound l.ps l.p-index
