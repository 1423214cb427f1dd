use Rattle.std.proofs.Common.{◌≡◌, drop, length}
use Rattle.vkg_algebra.specs.Answer.{solution_eq}
use Rattle.vkg_plain.proofs.distinct.same_solutions.Given as goal

abbrev pub invariant-loop-i : goal.invariant-loop-i
invariant-loop-i l = (length l.a ≡ length l.b) × (solution_eq l.a l.b ≡ solution_eq (drop l.i l.a) (drop l.i l.b))
