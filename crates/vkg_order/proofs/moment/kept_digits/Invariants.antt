use Rattle.std.proofs.Common.{◌≡◌, ◌≤◌, length, take}
use Rattle.vkg_cells.specs.Number.{without_trailing_zeros}
use Rattle.vkg_order.proofs.moment.kept_digits.Given as goal

abbrev pub invariant-loop-n : goal.invariant-loop-n
invariant-loop-n l = (l.n ≤ length l.fraction) × (without_trailing_zeros (take l.n l.fraction) ≡ without_trailing_zeros l.fraction)

abbrev pub decreases-loop-n : goal.decreases-loop-n
decreases-loop-n l = l.n
