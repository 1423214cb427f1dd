use Rattle.std.proofs.Common.{◌≡◌, map, take}
use Rattle.vkg_expr.specs.Seen.{expr_seen}
use Rattle.vkg_unfolded.specs.Unfolded.{graph_column}
use Rattle.vkg_unfold.proofs.graph.graph_columns.Given as goal

abbrev pub invariant-loop-wanted : goal.invariant-loop-wanted
invariant-loop-wanted l = map expr_seen l.columns ≡ map (graph_column l.inner l.variable) (take l.wanted-index l.variables)
