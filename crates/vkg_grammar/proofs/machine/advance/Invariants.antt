use Rattle.std.proofs.Common.{reverse}
use Rattle.vkg_grammar.specs.Rank.{rank_in, height}
use Rattle.vkg_grammar.specs.Machine.{IsReached}
use Rattle.vkg_grammar.proofs.machine.advance.Given as goal

abbrev pub invariant-loop-symbol : goal.invariant-loop-symbol
invariant-loop-symbol l = IsReached l.rules l.seen (reverse l.fn.stack.items) (reverse l.stack.items) l.fn.notes.items l.notes.items

abbrev pub decreases-loop-symbol : goal.decreases-loop-symbol
decreases-loop-symbol l = height (rank_in l.table l.width) l.seen (reverse l.stack.items)
