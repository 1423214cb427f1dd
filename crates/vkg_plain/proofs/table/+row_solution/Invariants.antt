use Rattle.std.proofs.Common.{length}
use Rattle.vkg_plain.proofs.table.+row_solution.Given as goal

abbrev pub decreases-row_solution : goal.decreases-row_solution
decreases-row_solution l = length l.variables.now
