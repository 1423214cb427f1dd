use Rattle.std.proofs.Common.{sym, subst}
use Rattle.vkg_cells.specs.Laws.{IsEqualWhereSame}
use Rattle.vkg_cells.proofs.LawLemmas.{order-same}
use Rattle.vkg_cells.proofs.OrderLemmas.{order-total}
use Rattle.vkg_cells.proofs.cell_order.order_ref.Goals as goal

pub returns-clause-total : goal.returns-clause-total
returns-clause-total c = order-total

pub returns-clause-equal : goal.returns-clause-equal
returns-clause-equal c =
    subst (IsEqualWhereSame c.args.a.now c.args.b.now) (sym c.order_lent.ensures) (order-same c.args.a.now c.args.b.now)
