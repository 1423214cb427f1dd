use Rattle.std.proofs.Common.{◌≡◌, ◌<◌, ◌++◌}
use Rattle.vkg_grammar.specs.Forest.{tree, node_count}
use Rattle.vkg_sparql.specs.Scopes.{tokens_value}
use Rattle.vkg_sparql.proofs.scopes.read_tokens.Given as goal

abbrev pub invariant-loop-token : goal.invariant-loop-token
invariant-loop-token l = record {
  inside : l.rest < node_count l.forest;
  same : l.tokens ++ tokens_value (tree l.forest l.rest) ≡ tokens_value (tree l.forest l.fn.at);
}

abbrev pub decreases-loop-token : goal.decreases-loop-token
decreases-loop-token l = l.rest
