use Rattle.std.proofs.Common.{ℕ, ◌<◌}
use Rattle.vkg_grammar.specs.Grammar.{shape_of}
use Rattle.vkg_grammar.specs.Rank.{rank_in}
use Rattle.vkg_grammar.specs.Tables.{ShapeApart}
use Rattle.vkg_grammar.proofs.check.all_apart.Given as goal

abbrev pub invariant-loop-symbol : goal.invariant-loop-symbol
invariant-loop-symbol l = (n : ℕ) → n < l.symbol → ShapeApart (rank_in l.table l.width) l.follow l.width n (shape_of l.rules n)
