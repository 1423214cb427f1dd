use Rattle.std.proofs.Common.{arith, inl, inr}
use Rattle.vkg_grammar.proofs.Rounds.{round_step}
use Rattle.vkg_grammar.specs.Tables.{TextReason}
use Rattle.vkg_grammar.proofs.productive.text_round.Goals as goal
use Rattle.vkg_grammar.proofs.productive.text_round.Goals.{then-value-old, else-value-old}

pub loop-symbol-preserved : goal.loop-symbol-preserved
loop-symbol-preserved c = rw c.in_ok-push.ensures.items (round_step (TextReason c.args.rules.now c.args.table.now) 1 c.args.table.now c.loop-symbol.next.items c.loop-symbol.symbol c.text_cell-value.result c.loop-symbol.changed c.if-value-old.changed (omega arith) c.loop-symbol.invariant c.text_cell-value.ensures
    (elim c.if-value-old.branch [ then-value-old w ↦ inl (w.if-value-old.true, w.changed-is) | else-value-old w ↦ inr (w.if-value-old.false, w.changed-is) ]))
