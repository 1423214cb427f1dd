use Rattle.vkg_grammar.specs.Tables.{zeros}
use Rattle.vkg_grammar.proofs.Rounds.{IsBegun}
use Rattle.vkg_grammar.proofs.table.begin_table.Given as goal

abbrev pub invariant-loop-table : goal.invariant-loop-table
invariant-loop-table l = IsBegun l.rules l.width l.stamp l.table.items

abbrev pub decreases-loop-table : goal.decreases-loop-table
decreases-loop-table l = zeros l.table.items
