use Rattle.vkg_sqltext.proofs.Orders.{own_orders}
use Rattle.vkg_sqltext.proofs.laws.orders_are_apart.Goals as goal

pub returns : goal.returns
returns c = own_orders
