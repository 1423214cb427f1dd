use Rattle.std.proofs.Common.{length}
use Rattle.vkg_unfold.proofs.table.+row_value.Given as goal

abbrev pub decreases-row_value : goal.decreases-row_value
decreases-row_value l = length l.variables.now
