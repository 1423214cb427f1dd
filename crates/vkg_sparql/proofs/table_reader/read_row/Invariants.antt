use Rattle.std.proofs.Common.{◌≡◌, ◌<◌, ◌++◌}
use Rattle.vkg_grammar.specs.Forest.{tree, node_count}
use Rattle.vkg_sparql.specs.Tables.{row_value}
use Rattle.vkg_sparql.proofs.table_reader.read_row.Given as goal

abbrev pub invariant-loop-value : goal.invariant-loop-value
invariant-loop-value l = record {
  inside : l.rest < node_count l.forest;
  same : l.row ++ row_value l.meanings (tree l.forest l.rest) ≡ row_value l.meanings (tree l.forest l.fn.at);
}

abbrev pub decreases-loop-value : goal.decreases-loop-value
decreases-loop-value l = l.rest
