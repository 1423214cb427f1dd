use Rattle.std.proofs.Common.{◌≡◌, ◌++◌, map, take}
use Rattle.std.specs.List.{filter}
use Rattle.vkg_expr.specs.Seen.{expr_seen}
use Rattle.vkg_algebra.specs.Visible.{has}
use Rattle.vkg_unfolded.specs.Unfolded.{left_column, or_null, right_column}
use Rattle.vkg_unfold.proofs.minus.push_each_shared.Given as goal

abbrev pub invariant-loop-variable : goal.invariant-loop-variable
invariant-loop-variable l =
    map expr_seen l.conditions ≡ map expr_seen l.initial.conditions ++ map (λ v. or_null (left_column l.left v) (right_column l.mode l.left l.right v)) (filter (has l.right) (take l.variable-index l.left))
