use Rattle.std.proofs.Common.{◌↔◌, drop}
use Rattle.vkg_grammar.specs.Tables.{AllFound}
use Rattle.vkg_grammar.proofs.productive.all_found.Given as goal

abbrev pub invariant-loop-symbol : goal.invariant-loop-symbol
invariant-loop-symbol l = AllFound l.table l.symbols ↔ AllFound l.table (drop l.symbol-index l.symbols)
