use Rattle.std.proofs.Common.{◌≡◌, ◌<◌, ◌++◌}
use Rattle.vkg_grammar.specs.Forest.{tree, node_count}
use Rattle.vkg_sparql.specs.Meanings.{numbers_value}
use Rattle.vkg_sparql.proofs.query_reader.read_numbers.Given as goal

abbrev pub invariant-loop-variable : goal.invariant-loop-variable
invariant-loop-variable l = record {
  inside : l.rest < node_count l.forest;
  same : l.numbers ++ numbers_value l.meanings (tree l.forest l.rest) ≡ numbers_value l.meanings (tree l.forest l.fn.at);
}

abbrev pub decreases-loop-variable : goal.decreases-loop-variable
decreases-loop-variable l = l.rest
