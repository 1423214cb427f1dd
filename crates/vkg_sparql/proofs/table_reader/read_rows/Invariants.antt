use Rattle.std.proofs.Common.{◌≡◌, ◌<◌, ◌++◌}
use Rattle.vkg_grammar.specs.Forest.{tree, node_count}
use Rattle.vkg_sparql.specs.Tables.{rows_value}
use Rattle.vkg_sparql.proofs.table_reader.read_rows.Given as goal

abbrev pub invariant-loop-row : goal.invariant-loop-row
invariant-loop-row l = record {
  inside : l.rest < node_count l.forest;
  same : l.rows ++ rows_value l.meanings (tree l.forest l.rest) ≡ rows_value l.meanings (tree l.forest l.fn.at);
}

abbrev pub decreases-loop-row : goal.decreases-loop-row
decreases-loop-row l = l.rest
