use Rattle.std.proofs.Common.{◌≡◌, sym, subst}
use Rattle.vkg_cells.specs.Laws.{IsEqualWhereSame}
use Rattle.vkg_cells.proofs.LawLemmas.{order-same}
use Rattle.vkg_cells.specs.Order.{order as order_of}
use Rattle.vkg_cells.proofs.cell_order.order.Goals as goal

pub returns-clause-equal : goal.returns-clause-equal
returns-clause-equal c =
    let e : c.order_ref.result ≡ order_of c.args.a.now c.args.b.now = cc in
    subst (IsEqualWhereSame c.args.a.now c.args.b.now) (sym e) (order-same c.args.a.now c.args.b.now)
