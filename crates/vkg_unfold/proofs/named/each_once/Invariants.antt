use Rattle.std.proofs.Common.{◌≡◌, take}
use Rattle.vkg_lists.specs.Sets.{distinct}
use Rattle.vkg_unfolded.specs.Unfolded.{name_eq}
use Rattle.vkg_unfold.proofs.named.each_once.Given as goal

abbrev pub invariant-loop-i : goal.invariant-loop-i
invariant-loop-i l = l.found ≡ distinct name_eq (take l.i l.names)
