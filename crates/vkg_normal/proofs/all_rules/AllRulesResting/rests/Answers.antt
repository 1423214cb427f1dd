-- They are not said to rest.
use Rattle.vkg_normal.proofs.all_rules.AllRulesResting.rests.Goals as goal

pub returns : goal.returns
returns c = λ e. cc
