use Rattle.vkg_algebra.proofs.Graphs.{ordered_lines}
use Rattle.vkg_algebra.proofs.laws.ordered_solutions.Goals as goal

pub returns : goal.returns
returns c = λ query ss d. ordered_lines query ss d
