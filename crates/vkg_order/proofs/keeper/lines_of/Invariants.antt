use Rattle.std.proofs.Common.{◌≡◌, map}
use Rattle.vkg_order.proofs.keeper.lines_of.Given as goal

abbrev pub invariant-loop-offer : goal.invariant-loop-offer
invariant-loop-offer l = l.lines ≡ map (λ e. e.line) l.yielded
