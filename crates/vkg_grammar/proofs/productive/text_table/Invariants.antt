use Rattle.vkg_grammar.specs.Tables.{zeros}
use Rattle.vkg_grammar.proofs.Texts.{AreTexts}
use Rattle.vkg_grammar.proofs.productive.text_table.Given as goal

abbrev pub invariant-loop-table : goal.invariant-loop-table
invariant-loop-table l = AreTexts l.rules l.table.items

abbrev pub decreases-loop-table : goal.decreases-loop-table
decreases-loop-table l = zeros l.table.items
