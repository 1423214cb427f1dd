use Rattle.vkg_cells.proofs.SignLemmas.{cmp-size}
use Rattle.vkg_cells.proofs.cell_order.order_sizes.Goals as goal

pub returns : goal.returns
returns c =
    simp (
      c.then-2.ensures,
      c.then.ensures,
      c.cmp.ensures,
      c.cmp-2.ensures,
      c.cmp-3.ensures,
      c.trim_leading_zeros-a_whole.ensures,
      c.trim_leading_zeros-b_whole.ensures,
      c.trim_trailing_zeros-a_fraction.ensures,
      c.trim_trailing_zeros-b_fraction.ensures,
      c.whole.ensures,
      c.whole-2.ensures,
      c.fraction.ensures,
      c.fraction-2.ensures,
    )
    (cmp-size c.args.a.now c.args.b.now c.requires.first c.requires.second)
