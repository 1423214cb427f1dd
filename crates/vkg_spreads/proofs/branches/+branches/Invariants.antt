-- What was counted, with what is left, is the whole up to the bound.
use Rattle.std.proofs.Common.{◌≤◌}
use Rattle.vkg_spreads.proofs.Counting.{CountedProduct, CountedSum}
use Rattle.vkg_spreads.proofs.branches.+branches.Given as goal

abbrev pub invariant-product-loop-p : goal.invariant-product-loop-p
invariant-product-loop-p l = CountedProduct l.ps l.p-index l.count × l.count ≤ 65

abbrev pub invariant-sum-loop-u : goal.invariant-sum-loop-u
invariant-sum-loop-u l = CountedSum l.us l.u-index l.count × l.count ≤ 65
