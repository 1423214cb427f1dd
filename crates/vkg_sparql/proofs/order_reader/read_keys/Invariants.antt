use Rattle.std.proofs.Common.{◌≡◌, ◌<◌, ◌++◌}
use Rattle.vkg_grammar.specs.Forest.{tree, node_count}
use Rattle.vkg_sparql.specs.Orders.{keys_value}
use Rattle.vkg_sparql.proofs.order_reader.read_keys.Given as goal

abbrev pub invariant-loop-key : goal.invariant-loop-key
invariant-loop-key l = record {
  inside : l.rest < node_count l.forest;
  same : l.keys ++ keys_value l.meanings (tree l.forest l.rest) ≡ keys_value l.meanings (tree l.forest l.fn.at);
}

abbrev pub decreases-loop-key : goal.decreases-loop-key
decreases-loop-key l = l.rest
