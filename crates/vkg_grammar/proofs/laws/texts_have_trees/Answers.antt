use Rattle.vkg_grammar.proofs.Same.{texts_have_trees}
use Rattle.vkg_grammar.proofs.laws.texts_have_trees.Goals as goal

pub returns : goal.returns
returns c = texts_have_trees
