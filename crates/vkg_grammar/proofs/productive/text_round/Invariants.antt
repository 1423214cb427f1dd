use Rattle.vkg_grammar.specs.Tables.{IsRound, TextReason}
use Rattle.vkg_grammar.proofs.productive.text_round.Given as goal

abbrev pub invariant-loop-symbol : goal.invariant-loop-symbol
invariant-loop-symbol l = IsRound (TextReason l.rules l.table) 1 l.table l.next.items l.symbol l.changed
