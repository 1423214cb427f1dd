use Rattle.vkg_grammar.specs.Rank.{rank_in}
use Rattle.vkg_grammar.specs.Tables.{IsRound, FollowReason}
use Rattle.vkg_grammar.proofs.follow.follow_round.Given as goal

abbrev pub invariant-loop-index : goal.invariant-loop-index
invariant-loop-index l = IsRound (FollowReason l.rules (rank_in l.table l.width) l.width l.follow) 1 l.follow l.next.items l.index l.changed
