use Rattle.std.proofs.Common.{◌≡◌, ◌++◌, [], map, take, drop}
use Rattle.vkg_expr.specs.Seen.{expr_seen}
use Rattle.vkg_unfold.specs.Parts.{named_seen}
use Rattle.vkg_unfolded.specs.Unfolded.{repeats}
use Rattle.vkg_unfold.proofs.named.repeats.Given as goal

abbrev pub invariant-loop-i : goal.invariant-loop-i
invariant-loop-i l = map expr_seen l.found ++ repeats (map named_seen (take l.i l.list)) (map named_seen (drop l.i l.list)) ≡ repeats [] (map named_seen l.list)
