use Rattle.std.proofs.Common.{◌≡◌, take}
use Rattle.vkg_eval.proofs.row.copies.Given as goal

abbrev pub invariant-loop-value : goal.invariant-loop-value
invariant-loop-value l = l.out ≡ take l.value-index l.values
