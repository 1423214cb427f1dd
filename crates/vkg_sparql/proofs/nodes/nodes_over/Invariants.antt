use Rattle.std.proofs.Common.{◌≡◌, fold, take}
use Rattle.vkg_sparql.specs.Nodes.{no_nodes, node_step}
use Rattle.vkg_sparql.proofs.nodes.nodes_over.Given as goal

abbrev pub invariant-loop-lexeme : goal.invariant-loop-lexeme
invariant-loop-lexeme l = l.nodes ≡ fold node_step no_nodes (take l.lexeme-index l.lexemes)
