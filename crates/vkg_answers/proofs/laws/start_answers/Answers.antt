use Rattle.vkg_answers.proofs.Start.{gives_answer}
use Rattle.vkg_answers.proofs.laws.start_answers.Goals as goal

pub returns : goal.returns
returns c = λ schema rules query h. gives_answer schema rules query h
