use Rattle.std.proofs.Common.{◌≡◌, flat_map, take}
use Rattle.vkg_algebra.specs.Construct.{pattern_labels}
use Rattle.vkg_algebra.proofs.construct.template_labels.Given as goal

abbrev pub invariant-loop-triple : goal.invariant-loop-triple
invariant-loop-triple l = l.labels ≡ flat_map pattern_labels (take l.triple-index l.template)
