use Rattle.std.proofs.Common.{◌≡◌, take}
use Rattle.vkg_rewrite.proofs.lines.copied.Given as goal

abbrev pub invariant-loop-cell : goal.invariant-loop-cell
invariant-loop-cell l = l.copied.items ≡ take l.cell-index l.cells
