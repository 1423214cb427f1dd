use Rattle.vkg_grammar.specs.Tables.{zeros}
use Rattle.vkg_grammar.proofs.Following.{IsFollowing}
use Rattle.vkg_grammar.proofs.follow.follow_table.Given as goal

abbrev pub invariant-loop-follow : goal.invariant-loop-follow
invariant-loop-follow l = IsFollowing l.rules l.width l.follow.items

abbrev pub decreases-loop-follow : goal.decreases-loop-follow
decreases-loop-follow l = zeros l.follow.items
