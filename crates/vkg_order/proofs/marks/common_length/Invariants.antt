use Rattle.std.proofs.Common.{◌≡◌, ◌+◌, ◌-◌, ◌≤◌, length, drop}
use Rattle.vkg_order.specs.Marks.{common_length}
use Rattle.vkg_order.proofs.marks.common_length.Given as goal

abbrev pub invariant-loop-n : goal.invariant-loop-n
invariant-loop-n l = (l.n ≤ length l.a) × (l.n ≤ length l.b) × (l.n + common_length (drop l.n l.a) (drop l.n l.b) ≡ common_length l.a l.b)

abbrev pub decreases-loop-n : goal.decreases-loop-n
decreases-loop-n l = length l.a - l.n
