use Rattle.std.proofs.Common.{◌≡◌, ◌<◌, ◌++◌}
use Rattle.vkg_grammar.specs.Forest.{tree, node_count}
use Rattle.vkg_sparql.specs.Triples.{block_value}
use Rattle.vkg_sparql.proofs.triple_reader.read_block.Given as goal

abbrev pub invariant-loop-same : goal.invariant-loop-same
invariant-loop-same l = record {
  inside : l.rest < node_count l.forest;
  same : l.out ++ block_value (tree l.forest l.rest) ≡ l.fn.out ++ block_value (tree l.forest l.fn.at);
}

abbrev pub decreases-loop-same : goal.decreases-loop-same
decreases-loop-same l = l.rest
