use Rattle.std.proofs.Common.{◌≡◌, ◌<◌}
use Rattle.vkg_grammar.specs.Forest.{tree, node_count}
use Rattle.vkg_sparql.specs.Scopes.{row_over}
use Rattle.vkg_sparql.proofs.scopes.row_over.Given as goal

abbrev pub invariant-loop-row : goal.invariant-loop-row
invariant-loop-row l = record {
  inside : l.rest < node_count l.forest;
  same : row_over l.lexemes l.width (tree l.forest l.rest) ≡ row_over l.lexemes l.width (tree l.forest l.fn.at);
}

abbrev pub decreases-loop-row : goal.decreases-loop-row
decreases-loop-row l = l.rest
