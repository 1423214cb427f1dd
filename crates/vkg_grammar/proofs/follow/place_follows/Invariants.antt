use Rattle.std.proofs.Common.{◌↔◌, drop, IsTrue}
use Rattle.vkg_grammar.specs.Rank.{rank_in}
use Rattle.vkg_grammar.specs.Tables.{PlaceFollows}
use Rattle.vkg_grammar.proofs.follow.place_follows.Given as goal

abbrev pub invariant-loop-index : goal.invariant-loop-index
invariant-loop-index l = PlaceFollows (rank_in l.table l.width) (IsTrue l.behind) l.symbol l.seen l.way ↔ PlaceFollows (rank_in l.table l.width) (IsTrue l.behind) l.symbol l.seen (drop l.index l.way)
