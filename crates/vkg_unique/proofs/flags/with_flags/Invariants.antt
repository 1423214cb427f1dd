-- The columns that are left, over the flags that are set, give the whole.
use Rattle.std.proofs.Common.{◌≡◌, drop}
use Rattle.vkg_unique.specs.Sure.{with_flags}
use Rattle.vkg_unique.proofs.flags.with_flags.Given as goal

abbrev pub invariant-loop-at : goal.invariant-loop-at
invariant-loop-at l = with_flags l.fn.flags l.columns ≡ with_flags l.flags (drop l.at-index l.columns)
