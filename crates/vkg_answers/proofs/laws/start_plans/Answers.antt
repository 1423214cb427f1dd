use Rattle.vkg_answers.proofs.Start.{gives_solutions}
use Rattle.vkg_answers.proofs.laws.start_plans.Goals as goal

pub returns : goal.returns
returns c = λ schema rules query h. gives_solutions schema rules query h
