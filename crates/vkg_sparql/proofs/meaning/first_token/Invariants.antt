use Rattle.std.proofs.Common.{◌≡◌, ◌<◌}
use Rattle.vkg_grammar.specs.Forest.{tree, node_count}
use Rattle.vkg_sparql.specs.Meanings.{first_token}
use Rattle.vkg_sparql.proofs.meaning.first_token.Given as goal

abbrev pub invariant-loop-token : goal.invariant-loop-token
invariant-loop-token l = record {
  inside : l.rest < node_count l.forest;
  same : first_token (tree l.forest l.rest) ≡ first_token (tree l.forest l.fn.at);
}

abbrev pub decreases-loop-token : goal.decreases-loop-token
decreases-loop-token l = l.rest
