use Rattle.std.proofs.Common.{◌≡◌, map, take}
use Rattle.vkg_expr.specs.Seen.{expr_seen}
use Rattle.vkg_unfolded.specs.Unfolded.{merged}
use Rattle.vkg_unfold.proofs.two.each_merged.Given as goal

abbrev pub invariant-loop-variable : goal.invariant-loop-variable
invariant-loop-variable l = map expr_seen l.columns ≡ map (merged l.mode l.left l.right) (take l.variable-index l.all)
