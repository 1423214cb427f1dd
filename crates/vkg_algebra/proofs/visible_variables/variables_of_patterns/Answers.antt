use Rattle.std.proofs.Common.{[]}
use Rattle.vkg_algebra.proofs.visible_variables.variables_of_patterns.Goals as goal

pub returns : goal.returns
returns c = c.in_ok-add_patterns.ensures [] c.new-variables.ensures
