use Rattle.std.proofs.Common.{◌≡◌, take}
use Rattle.vkg_algebra.specs.Solutions.{minus}
use Rattle.vkg_plain.proofs.minus.minus.Given as goal

abbrev pub invariant-loop-l : goal.invariant-loop-l
invariant-loop-l l = l.out ≡ minus (take l.l-index l.ls) l.rs
