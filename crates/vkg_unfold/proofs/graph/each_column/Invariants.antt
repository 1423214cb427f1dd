use Rattle.std.proofs.Common.{◌≡◌, map, take}
use Rattle.vkg_expr.specs.Seen.{expr_seen}
use Rattle.vkg_unfolded.specs.Unfolded.{column}
use Rattle.vkg_unfold.proofs.graph.each_column.Given as goal

abbrev pub invariant-loop-variable : goal.invariant-loop-variable
invariant-loop-variable l = map expr_seen l.columns ≡ map (column l.variables 0) (take l.variable-index l.variables)
