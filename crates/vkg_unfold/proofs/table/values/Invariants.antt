use Rattle.std.proofs.Common.{◌≡◌, map, take}
use Rattle.vkg_expr.specs.Seen.{expr_seen}
use Rattle.vkg_unfolded.specs.Unfolded.{row_term, value_const}
use Rattle.vkg_unfold.proofs.table.values.Given as goal

abbrev pub invariant-loop-variable : goal.invariant-loop-variable
invariant-loop-variable l = map expr_seen l.columns ≡ map (λ v. value_const (row_term l.variables l.row v)) (take l.variable-index l.wanted)
