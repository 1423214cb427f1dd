use Rattle.std.proofs.Common.{◌≡◌, take, flat_map}
use Rattle.vkg_unfolded.specs.Unfolded.{pattern_names}
use Rattle.vkg_unfold.proofs.bgp.all_names.Given as goal

abbrev pub invariant-loop-pattern : goal.invariant-loop-pattern
invariant-loop-pattern l = l.names ≡ flat_map (pattern_names l.mode) (take l.pattern-index l.patterns)
