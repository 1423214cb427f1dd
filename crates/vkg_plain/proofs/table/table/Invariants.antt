use Rattle.std.proofs.Common.{◌≡◌, map, take}
use Rattle.vkg_algebra.specs.Solutions.{row_solution}
use Rattle.vkg_plain.proofs.table.table.Given as goal

abbrev pub invariant-loop-row : goal.invariant-loop-row
invariant-loop-row l = l.out ≡ map (row_solution l.width l.variables) (take l.row-index l.rows)
