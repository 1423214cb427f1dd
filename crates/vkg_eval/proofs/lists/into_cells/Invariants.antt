use Rattle.std.proofs.Common.{◌≡◌}
use Rattle.vkg_eval.proofs.lists.into_cells.Given as goal

abbrev pub invariant-loop-value : goal.invariant-loop-value
invariant-loop-value l = l.cells ≡ l.yielded
