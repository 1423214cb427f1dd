use Rattle.vkg_grammar.proofs.Texts.{texts_next, texts_done}
use Rattle.vkg_grammar.proofs.productive.text_table.Goals as goal

pub returns-then-not-changed-clause-texts : goal.returns-then-not-changed-clause-texts
returns-then-not-changed-clause-texts c = λ n h. (c.loop-table.invariant.sound n h, texts_done c.loop-table.table.items c.in_ok-next.next.items c.requires c.loop-table.invariant (rw c.deref.ensures.value at c.in_ok-next.ensures) c.if-not-changed.true n h)

pub loop-table-preserved : goal.loop-table-preserved
loop-table-preserved c = texts_next c.loop-table.table.items c.in_ok-next.next.items c.requires c.loop-table.invariant (rw c.deref.ensures.value at c.in_ok-next.ensures)
