use Rattle.vkg_grammar.specs.Tables.{IsRound, BeginReason}
use Rattle.vkg_grammar.proofs.table.round.Given as goal

abbrev pub invariant-loop-index : goal.invariant-loop-index
invariant-loop-index l = IsRound (BeginReason l.rules l.width l.table) l.stamp l.table l.next.items l.index l.changed
