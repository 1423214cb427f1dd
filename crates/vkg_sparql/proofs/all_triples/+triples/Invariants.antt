use Rattle.std.proofs.Common.{◌≡◌, ◌≤◌, ◌<◌, ◌++◌}
use Rattle.vkg_grammar.specs.Forest.{tree, node_count}
use Rattle.vkg_sparql.specs.Triples.{parts_triples, groups_triples}
use Rattle.vkg_sparql.proofs.all_triples.+triples.Given as goal

abbrev pub decreases-read_group_triples : goal.decreases-read_group_triples
decreases-read_group_triples l = l.at

abbrev pub decreases-read_parts : goal.decreases-read_parts
decreases-read_parts l = l.at

abbrev pub decreases-read_part : goal.decreases-read_part
decreases-read_part l = l.at

abbrev pub decreases-read_other : goal.decreases-read_other
decreases-read_other l = l.at

abbrev pub decreases-read_later : goal.decreases-read_later
decreases-read_later l = l.at

abbrev pub decreases-read_last : goal.decreases-read_last
decreases-read_last l = l.at

abbrev pub decreases-read_graph : goal.decreases-read_graph
decreases-read_graph l = l.at

abbrev pub decreases-read_groups : goal.decreases-read_groups
decreases-read_groups l = l.at

abbrev pub decreases-read_more_groups : goal.decreases-read_more_groups
decreases-read_more_groups l = l.at

abbrev pub invariant-read_parts-loop-step : goal.invariant-read_parts-loop-step
invariant-read_parts-loop-step l = record {
  below : l.rest ≤ l.fn.at;
  inside : l.fn.at < node_count l.forest;
  same : l.out ++ parts_triples (tree l.forest l.rest) ≡ l.fn.out ++ parts_triples (tree l.forest l.fn.at);
}

abbrev pub decreases-read_parts-loop-step : goal.decreases-read_parts-loop-step
decreases-read_parts-loop-step l = l.rest

abbrev pub invariant-read_more_groups-loop-step : goal.invariant-read_more_groups-loop-step
invariant-read_more_groups-loop-step l = record {
  below : l.rest ≤ l.fn.at;
  inside : l.fn.at < node_count l.forest;
  same : l.out ++ groups_triples (tree l.forest l.rest) ≡ l.fn.out ++ groups_triples (tree l.forest l.fn.at);
}

abbrev pub decreases-read_more_groups-loop-step : goal.decreases-read_more_groups-loop-step
decreases-read_more_groups-loop-step l = l.rest
