use Rattle.std.proofs.Common.{◌≡◌, ◌≤◌, drop, length}
use Rattle.vkg_lists.specs.Sets.{distinct}
use Rattle.vkg_algebra.specs.Answer.{solution_eq}
use Rattle.vkg_plain.proofs.distinct.once_each.Given as goal

abbrev pub invariant-loop-i : goal.invariant-loop-i
invariant-loop-i l = (l.i ≤ length l.rows) × (l.out ≡ distinct solution_eq (drop l.i l.rows))

abbrev pub decreases-loop-i : goal.decreases-loop-i
decreases-loop-i l = l.i
