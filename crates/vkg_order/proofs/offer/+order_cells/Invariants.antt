use Rattle.std.proofs.Common.{length}
use Rattle.vkg_order.proofs.offer.+order_cells.Given as goal

abbrev pub decreases-order_cells : goal.decreases-order_cells
decreases-order_cells l = length l.directions.now
