use Rattle.std.proofs.Common.{◌≡◌, map, take}
use Rattle.std.specs.List.{filter}
use Rattle.vkg_expr.specs.Seen.{expr_seen}
use Rattle.vkg_algebra.specs.Visible.{has}
use Rattle.vkg_unfolded.specs.Unfolded.{both_there}
use Rattle.vkg_unfold.proofs.minus.each_there.Given as goal

abbrev pub invariant-loop-variable : goal.invariant-loop-variable
invariant-loop-variable l = map expr_seen l.conditions ≡ map (both_there l.mode l.left l.right) (filter (has l.right) (take l.variable-index l.left))
