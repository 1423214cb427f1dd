use Rattle.std.proofs.Common.{sym, ◌∙◌}
use Rattle.vkg_cells.proofs.SignLemmas.{cmp-above, cmp-above-below, cmp-below, cmp-below-above}
use Rattle.vkg_cells.proofs.cell_order.order_numbers.Goals as goal

pub returns-in-true-true : goal.returns-in-true-true
returns-in-true-true c =
    let h = c.in-true-true in
    c.order_sizes.ensures ∙ cmp-below c.args.a.now c.args.b.now c.requires.first c.requires.second (sym h.ensures) (sym h.ensures')

pub returns-in-true-false : goal.returns-in-true-false
returns-in-true-false c =
    let h = c.in-true-false in
    cmp-below-above c.args.a.now c.args.b.now c.requires.first c.requires.second (sym h.ensures) (sym h.ensures')

pub returns-in-false-true : goal.returns-in-false-true
returns-in-false-true c =
    let h = c.in-false-true in
    cmp-above-below c.args.a.now c.args.b.now c.requires.first c.requires.second (sym h.ensures) (sym h.ensures')

pub returns-in-false-false : goal.returns-in-false-false
returns-in-false-false c =
    let h = c.in-false-false in
    c.order_sizes-in-false-false.ensures ∙ cmp-above c.args.a.now c.args.b.now c.requires.first c.requires.second (sym h.ensures) (sym h.ensures')
