use Rattle.std.proofs.Common.{◌↔◌, drop}
use Rattle.vkg_grammar.specs.Rank.{rank_in, Begins}
use Rattle.vkg_grammar.proofs.table.begins.Given as goal

abbrev pub invariant-loop-symbol : goal.invariant-loop-symbol
invariant-loop-symbol l = Begins (rank_in l.table l.width) l.seen l.symbols ↔ Begins (rank_in l.table l.width) l.seen (drop l.symbol-index l.symbols)
