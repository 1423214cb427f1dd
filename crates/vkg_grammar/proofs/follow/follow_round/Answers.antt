use Rattle.std.proofs.Common.{arith, inl, inr}
use Rattle.vkg_grammar.proofs.Rounds.{round_step}
use Rattle.vkg_grammar.specs.Tables.{FollowReason}
use Rattle.vkg_grammar.specs.Rank.{rank_in}
use Rattle.vkg_grammar.proofs.follow.follow_round.Goals as goal
use Rattle.vkg_grammar.proofs.follow.follow_round.Goals.{then-value-old, else-value-old}

pub loop-index-preserved : goal.loop-index-preserved
loop-index-preserved c = rw c.in_ok-push.ensures.items (round_step (FollowReason c.args.rules.now (rank_in c.args.table.now c.args.width) c.args.width c.args.follow.now) 1 c.args.follow.now c.loop-index.next.items c.loop-index.index c.follow_cell-value.result c.loop-index.changed c.if-value-old.changed (omega arith) c.loop-index.invariant c.follow_cell-value.ensures
    (elim c.if-value-old.branch [ then-value-old w ↦ inl (w.if-value-old.true, w.changed-is) | else-value-old w ↦ inr (w.if-value-old.false, w.changed-is) ]))
