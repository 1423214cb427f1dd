use Rattle.std.proofs.Common.{◌≡◌, ◌≤◌, ◌<◌, ◌++◌}
use Rattle.vkg_grammar.specs.Forest.{tree, node_count}
use Rattle.vkg_sparql.specs.Groups.{parts_value, groups_value}
use Rattle.vkg_sparql.proofs.group_reader.+group.Given as goal

abbrev pub decreases-read_group : goal.decreases-read_group
decreases-read_group l = l.at

abbrev pub decreases-push_parts : goal.decreases-push_parts
decreases-push_parts l = l.at

abbrev pub decreases-read_part : goal.decreases-read_part
decreases-read_part l = l.at

abbrev pub decreases-read_other : goal.decreases-read_other
decreases-read_other l = l.at

abbrev pub decreases-read_later : goal.decreases-read_later
decreases-read_later l = l.at

abbrev pub decreases-read_last : goal.decreases-read_last
decreases-read_last l = l.at

abbrev pub decreases-read_graph : goal.decreases-read_graph
decreases-read_graph l = l.at

abbrev pub decreases-read_groups : goal.decreases-read_groups
decreases-read_groups l = l.at

abbrev pub decreases-read_more_groups : goal.decreases-read_more_groups
decreases-read_more_groups l = l.at

abbrev pub invariant-push_parts-loop-step : goal.invariant-push_parts-loop-step
invariant-push_parts-loop-step l = record {
  below : l.rest ≤ l.fn.at;
  inside : l.fn.at < node_count l.forest;
  same : l.parts ++ parts_value l.meanings (tree l.forest l.rest) ≡ l.fn.parts ++ parts_value l.meanings (tree l.forest l.fn.at);
}

abbrev pub decreases-push_parts-loop-step : goal.decreases-push_parts-loop-step
decreases-push_parts-loop-step l = l.rest

abbrev pub invariant-read_more_groups-loop-step : goal.invariant-read_more_groups-loop-step
invariant-read_more_groups-loop-step l = record {
  below : l.rest ≤ l.fn.at;
  inside : l.fn.at < node_count l.forest;
  same : l.all ++ groups_value l.meanings (tree l.forest l.rest) ≡ groups_value l.meanings (tree l.forest l.fn.at);
}

abbrev pub decreases-read_more_groups-loop-step : goal.decreases-read_more_groups-loop-step
decreases-read_more_groups-loop-step l = l.rest
