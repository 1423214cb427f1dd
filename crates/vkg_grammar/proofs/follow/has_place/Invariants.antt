use Rattle.std.proofs.Common.{ℕ, ◌<◌}
use Rattle.vkg_grammar.specs.Grammar.{shape_of}
use Rattle.vkg_grammar.specs.Rank.{rank_in}
use Rattle.vkg_grammar.specs.Tables.{ShapeFollows}
use Rattle.vkg_grammar.proofs.follow.has_place.Given as goal

abbrev pub invariant-loop-parent : goal.invariant-loop-parent
invariant-loop-parent l = (m : ℕ) → m < l.parent → ShapeFollows (rank_in l.table l.width) (0 < rank_in l.follow l.width m l.seen) l.symbol l.seen (shape_of l.rules m) → ⊥
