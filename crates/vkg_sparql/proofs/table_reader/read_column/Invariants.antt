use Rattle.std.proofs.Common.{◌≡◌, ◌<◌, ◌++◌}
use Rattle.vkg_grammar.specs.Forest.{tree, node_count}
use Rattle.vkg_sparql.specs.Tables.{column_value}
use Rattle.vkg_sparql.proofs.table_reader.read_column.Given as goal

abbrev pub invariant-loop-value : goal.invariant-loop-value
invariant-loop-value l = record {
  inside : l.rest < node_count l.forest;
  same : l.rows ++ column_value l.meanings (tree l.forest l.rest) ≡ column_value l.meanings (tree l.forest l.fn.at);
}

abbrev pub decreases-loop-value : goal.decreases-loop-value
decreases-loop-value l = l.rest
