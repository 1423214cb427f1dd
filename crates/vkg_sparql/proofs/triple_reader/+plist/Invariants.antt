use Rattle.std.proofs.Common.{◌≡◌, ◌≤◌, ◌<◌, ◌++◌}
use Rattle.vkg_grammar.specs.Forest.{tree, node_count}
use Rattle.vkg_sparql.specs.Triples.{plist_more, olist_more, olist_value}
use Rattle.vkg_sparql.proofs.triple_reader.+plist.Given as goal

abbrev pub decreases-read_plist : goal.decreases-read_plist
decreases-read_plist l = l.at

abbrev pub decreases-read_more : goal.decreases-read_more
decreases-read_more l = l.at

abbrev pub decreases-read_verb : goal.decreases-read_verb
decreases-read_verb l = l.at

abbrev pub decreases-read_olist : goal.decreases-read_olist
decreases-read_olist l = l.at

abbrev pub decreases-read_object : goal.decreases-read_object
decreases-read_object l = l.at

abbrev pub decreases-read_inner : goal.decreases-read_inner
decreases-read_inner l = l.at

abbrev pub invariant-read_more-loop-step : goal.invariant-read_more-loop-step
invariant-read_more-loop-step l = record {
  below : l.rest ≤ l.fn.at;
  inside : l.fn.at < node_count l.forest;
  same : l.out ++ plist_more l.subject (tree l.forest l.rest) ≡ l.fn.out ++ plist_more l.subject (tree l.forest l.fn.at);
}

abbrev pub decreases-read_more-loop-step : goal.decreases-read_more-loop-step
decreases-read_more-loop-step l = l.rest

abbrev pub invariant-read_olist-loop-step : goal.invariant-read_olist-loop-step
invariant-read_olist-loop-step l = record {
  below : l.rest ≤ l.fn.at;
  inside : l.fn.at < node_count l.forest;
  same : l.out ++ olist_more l.subject l.predicate (tree l.forest l.rest) ≡ l.fn.out ++ olist_value l.subject l.predicate (tree l.forest l.fn.at);
}

abbrev pub decreases-read_olist-loop-step : goal.decreases-read_olist-loop-step
decreases-read_olist-loop-step l = l.rest
