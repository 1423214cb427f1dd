use Rattle.vkg_answers.proofs.Whole.{unfolded_stands}
use Rattle.vkg_answers.proofs.laws.unfolded_plans.Goals as goal

pub returns : goal.returns
returns c = λ schema rules n a mode h. unfolded_stands schema rules n a mode h
