use Rattle.std.proofs.Common.{ℕ, ◌<◌}
use Rattle.vkg_grammar.specs.Rank.{rank_in}
use Rattle.vkg_grammar.specs.Tables.{StartsBy}
use Rattle.vkg_grammar.proofs.check.kinds_apart.Given as goal

abbrev pub invariant-loop-kind : goal.invariant-loop-kind
invariant-loop-kind l = (k : ℕ) → k < l.kind → StartsBy (rank_in l.table l.width) l.follow l.width l.symbol k l.first → StartsBy (rank_in l.table l.width) l.follow l.width l.symbol k l.second → ⊥
