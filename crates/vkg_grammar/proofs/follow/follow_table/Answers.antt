use Rattle.vkg_grammar.specs.Rank.{rank_in}
use Rattle.vkg_grammar.proofs.Following.{follow_begun, follow_next, follow_done}
use Rattle.vkg_grammar.proofs.follow.follow_table.Goals as goal

pub loop-follow-init : goal.loop-follow-init
loop-follow-init c = follow_begun c.args.width c.in_ok-follow.follow.items (c.in_ok-follow.ensures.items_if_clones_equal (λ y e. e))

pub returns-then-not-changed-clause-follows : goal.returns-then-not-changed-clause-follows
returns-then-not-changed-clause-follows c = follow_done c.args.table.now c.args.width c.loop-follow.follow.items c.in_ok-next.next.items c.requires.grammar c.requires.productive c.requires.is_table c.requires.wide c.loop-follow.invariant (rw c.deref.ensures.value at c.in_ok-next.ensures) c.if-not-changed.true

pub loop-follow-preserved : goal.loop-follow-preserved
loop-follow-preserved c = follow_next (rank_in c.args.table.now c.args.width) c.args.width c.loop-follow.follow.items c.in_ok-next.next.items c.requires.grammar c.requires.productive c.requires.is_table c.loop-follow.invariant (rw c.deref.ensures.value at c.in_ok-next.ensures)
