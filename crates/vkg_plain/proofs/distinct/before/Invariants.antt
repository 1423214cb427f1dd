use Rattle.std.proofs.Common.{◌≡◌, ◌∷◌, take, not}
use Rattle.std.specs.List.{filter}
use Rattle.vkg_algebra.specs.Answer.{solution_eq}
use Rattle.vkg_algebra.specs.Solutions.{Solution}
use Rattle.vkg_plain.proofs.distinct.before.Given as goal

abbrev pub invariant-loop-other : goal.invariant-loop-other
invariant-loop-other l = l.out ≡ l.row ∷ filter (λ (s : Solution). not (solution_eq l.row s)) (take l.other-index l.rows)
