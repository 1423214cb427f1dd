use Rattle.std.proofs.Common.{◌≡◌, drop}
use Rattle.vkg_algebra.specs.Solutions.{shares}
use Rattle.vkg_plain.proofs.minus.shares.Given as goal

abbrev pub invariant-loop-i : goal.invariant-loop-i
invariant-loop-i l = shares l.l l.r ≡ shares (drop l.i l.l) (drop l.i l.r)
