use Rattle.std.proofs.Common.{◌≡◌, map, take}
use Rattle.vkg_plan.specs.Seen.{plan_seen}
use Rattle.vkg_unfolded.specs.Unfolded.{row_plan}
use Rattle.vkg_unfold.proofs.table.each_row.Given as goal

abbrev pub invariant-loop-row : goal.invariant-loop-row
invariant-loop-row l = map plan_seen l.members ≡ map (row_plan l.variables) (take l.row-index l.rows)
