use Rattle.vkg_algebra.proofs.LineLemmas.{solution_line_inline, solution_line_same}
use Rattle.vkg_algebra.proofs.laws.solution_lines.Goals as goal

pub returns-clause-one_to_one : goal.returns-clause-one_to_one
returns-clause-one_to_one c = λ s t n w x e. solution_line_same s t n w x e

pub returns-clause-one_line : goal.returns-clause-one_line
returns-clause-one_line c = λ s w d. solution_line_inline s w d
