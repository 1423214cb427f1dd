use Rattle.std.proofs.Common.{◌≡◌, ◌++◌, take}
use Rattle.vkg_eval.proofs.row.Row.push_cells.Given as goal

abbrev pub invariant-loop-cell : goal.invariant-loop-cell
invariant-loop-cell l = l.self ≡ l.fn.self ++ take l.cell-index l.cells
