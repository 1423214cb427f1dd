use Rattle.std.proofs.Common.{◌≡◌, drop}
use Rattle.vkg_expr.specs.Value.{coalesced}
use Rattle.vkg_eval.proofs.lists.first_known.Given as goal

abbrev pub invariant-loop-cell : goal.invariant-loop-cell
invariant-loop-cell l = coalesced l.cells ≡ coalesced (drop l.cell-index l.cells)
