use Rattle.vkg_fine_rules.proofs.FittingRules.{has_fitting_rules}
use Rattle.vkg_fine_rules.proofs.laws.fitting_rules.Goals as goal

pub returns : goal.returns
returns c = λ schema mapping. has_fitting_rules schema mapping
