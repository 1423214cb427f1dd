use Rattle.std.proofs.Common.{◌≡◌, map, take}
use Rattle.vkg_expr.specs.Seen.{expr_seen}
use Rattle.vkg_unfolded.specs.Unfolded.{visible_column}
use Rattle.vkg_unfold.proofs.two.visible_columns.Given as goal

abbrev pub invariant-loop-variable : goal.invariant-loop-variable
invariant-loop-variable l = map expr_seen l.columns ≡ map (visible_column l.variables) (take l.variable-index l.wanted)
