use Rattle.std.proofs.Common.{◌≡◌, ◌<◌}
use Rattle.vkg_grammar.specs.Forest.{tree, node_count}
use Rattle.vkg_sparql.specs.Environment.{declarations}
use Rattle.vkg_sparql.proofs.environment.Environment.read_declarations.Given as goal

abbrev pub invariant-loop-step : goal.invariant-loop-step
invariant-loop-step l = record {
  inside : l.rest < node_count l.forest;
  same : declarations l.lexemes l.self (tree l.forest l.rest) ≡ declarations l.lexemes l.fn.self (tree l.forest l.fn.at);
}

abbrev pub decreases-loop-step : goal.decreases-loop-step
decreases-loop-step l = l.rest
