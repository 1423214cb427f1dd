use Rattle.std.proofs.Common.{length}
use Rattle.vkg_order.proofs.solutions.+order_places.Given as goal

abbrev pub decreases-order_places : goal.decreases-order_places
decreases-order_places l = length l.a.now
