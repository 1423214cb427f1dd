use Rattle.std.proofs.Common.{arith, inl, inr}
use Rattle.vkg_grammar.proofs.Rounds.{round_step}
use Rattle.vkg_grammar.specs.Tables.{BeginReason}
use Rattle.vkg_grammar.proofs.table.round.Goals as goal
use Rattle.vkg_grammar.proofs.table.round.Goals.{then-value-old, else-value-old}

pub loop-index-preserved : goal.loop-index-preserved
loop-index-preserved c = rw c.in_ok-push.ensures.items (round_step (BeginReason c.args.rules.now c.args.width c.args.table.now) c.args.stamp c.args.table.now c.loop-index.next.items c.loop-index.index c.next_cell-value.result c.loop-index.changed c.if-value-old.changed (omega arith) c.loop-index.invariant c.next_cell-value.ensures
    (elim c.if-value-old.branch [ then-value-old w ↦ inl (w.if-value-old.true, w.changed-is) | else-value-old w ↦ inr (w.if-value-old.false, w.changed-is) ]))
