use Rattle.vkg_unfolded.proofs.AlgebraColumns.{start_plan_kinds, unfolded_kinds}
use Rattle.vkg_unfolded.proofs.laws.term_columns.Goals as goal

pub returns-clause-plans : goal.returns-clause-plans
returns-clause-plans c = λ schema rules fit. unfolded_kinds schema rules fit

pub returns-clause-answers : goal.returns-clause-answers
returns-clause-answers c = λ schema rules fit. start_plan_kinds schema rules fit
