use Rattle.std.proofs.Common.{◌≡◌, ◌≤◌, ◌<◌, ◌++◌}
use Rattle.vkg_grammar.specs.Forest.{tree, node_count}
use Rattle.vkg_sparql.specs.Conditions.{or_more, and_more}
use Rattle.vkg_sparql.proofs.condition_reader.+condition.Given as goal

abbrev pub decreases-read_or : goal.decreases-read_or
decreases-read_or l = l.at

abbrev pub decreases-read_or_more : goal.decreases-read_or_more
decreases-read_or_more l = l.at

abbrev pub decreases-read_and : goal.decreases-read_and
decreases-read_and l = l.at

abbrev pub decreases-read_and_more : goal.decreases-read_and_more
decreases-read_and_more l = l.at

abbrev pub decreases-read_rel : goal.decreases-read_rel
decreases-read_rel l = l.at

abbrev pub decreases-read_rel_more : goal.decreases-read_rel_more
decreases-read_rel_more l = l.at

abbrev pub decreases-read_unary : goal.decreases-read_unary
decreases-read_unary l = l.at

abbrev pub decreases-read_primary : goal.decreases-read_primary
decreases-read_primary l = l.at

abbrev pub decreases-read_bracketed : goal.decreases-read_bracketed
decreases-read_bracketed l = l.at

abbrev pub decreases-read_call : goal.decreases-read_call
decreases-read_call l = l.at

abbrev pub decreases-read_two : goal.decreases-read_two
decreases-read_two l = l.at

abbrev pub invariant-read_or_more-loop-step : goal.invariant-read_or_more-loop-step
invariant-read_or_more-loop-step l = record {
  below : l.rest ≤ l.fn.at;
  inside : l.fn.at < node_count l.forest;
  same : l.all ++ or_more l.meanings (tree l.forest l.rest) ≡ or_more l.meanings (tree l.forest l.fn.at);
}

abbrev pub decreases-read_or_more-loop-step : goal.decreases-read_or_more-loop-step
decreases-read_or_more-loop-step l = l.rest

abbrev pub invariant-read_and_more-loop-step : goal.invariant-read_and_more-loop-step
invariant-read_and_more-loop-step l = record {
  below : l.rest ≤ l.fn.at;
  inside : l.fn.at < node_count l.forest;
  same : l.all ++ and_more l.meanings (tree l.forest l.rest) ≡ and_more l.meanings (tree l.forest l.fn.at);
}

abbrev pub decreases-read_and_more-loop-step : goal.decreases-read_and_more-loop-step
decreases-read_and_more-loop-step l = l.rest
