use Rattle.vkg_grammar.proofs.Rounds.{begun, begun_next, finished}
use Rattle.vkg_grammar.proofs.table.begin_table.Goals as goal

pub loop-table-init : goal.loop-table-init
loop-table-init c = begun c.args.width c.in_ok-table.table.items (c.in_ok-table.ensures.items_if_clones_equal (λ y e. e))

pub returns-then-not-changed-clause-table : goal.returns-then-not-changed-clause-table
returns-then-not-changed-clause-table c = let b = c.loop-table.invariant in let r = (rw c.deref.ensures.value at c.in_ok-next.ensures) in finished c.args.width c.loop-table.stamp c.loop-table.table.items c.in_ok-next.next.items c.requires.grammar c.requires.columns c.requires.wide b.size b.positive b.founded r c.if-not-changed.true

pub loop-table-preserved : goal.loop-table-preserved
loop-table-preserved c = (begun_next c.args.width c.loop-table.stamp c.loop-table.table.items c.in_ok-next.next.items c.requires.grammar c.loop-table.invariant (rw c.deref.ensures.value at c.in_ok-next.ensures) c.if-not-changed.false).0
