use Rattle.vkg_grammar.proofs.Shapes.{trees_follow_rules}
use Rattle.vkg_grammar.proofs.laws.trees_follow_rules.Goals as goal

pub returns : goal.returns
returns c = trees_follow_rules
