use Rattle.std.proofs.Common.{◌≡◌, map, take}
use Rattle.vkg_expr.specs.Seen.{expr_seen}
use Rattle.vkg_lists.specs.Sets.{distinct}
use Rattle.vkg_unfold.specs.Parts.{named_seen}
use Rattle.vkg_unfolded.specs.Unfolded.{Named, same_name}
use Rattle.vkg_unfold.proofs.named.first_places.Given as goal

abbrev pub invariant-loop-i : goal.invariant-loop-i
invariant-loop-i l = map expr_seen l.found ≡ map (λ (n : Named). n.1) (distinct same_name (map named_seen (take l.i l.list)))
