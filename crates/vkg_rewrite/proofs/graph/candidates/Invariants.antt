use Rattle.std.proofs.Common.{◌≡◌, map, take}
use Rattle.vkg_algebra.specs.Answer.{found_of}
use Rattle.vkg_answers.specs.Answering.{row_solution}
use Rattle.vkg_rewrite.proofs.graph.candidates.Given as goal

abbrev pub invariant-loop-i : goal.invariant-loop-i
invariant-loop-i l = l.found.items ≡ map (λ row. found_of l.width (row_solution row)) (take l.i l.rows)
