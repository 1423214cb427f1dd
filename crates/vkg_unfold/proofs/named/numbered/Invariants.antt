use Rattle.std.proofs.Common.{◌≡◌, ◌++◌, map, drop}
use Rattle.vkg_unfold.specs.Parts.{named_seen}
use Rattle.vkg_unfolded.specs.Unfolded.{numbered}
use Rattle.vkg_unfold.proofs.named.numbered.Given as goal

abbrev pub invariant-loop-i : goal.invariant-loop-i
invariant-loop-i l = map named_seen l.columns ++ numbered l.i (drop l.i l.names) ≡ numbered 0 l.names
