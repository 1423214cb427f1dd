use Rattle.std.proofs.Common.{ap, ◌∙◌}
use Rattle.vkg_grammar.specs.Trees.{trees_of}
use Rattle.vkg_grammar.proofs.Forests.{one_more_tree}
use Rattle.vkg_grammar.proofs.forest.Forest.push.Goals as goal

pub returns-clause-trees : goal.returns-clause-trees
returns-clause-trees c = ap trees_of c.in_ok-push.ensures.items ∙ one_more_tree c.args.self.now.nodes.items c.args.node
