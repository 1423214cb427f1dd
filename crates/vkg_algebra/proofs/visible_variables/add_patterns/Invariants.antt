use Rattle.std.proofs.Common.{take}
use Rattle.std.specs.List.{flat_map}
use Rattle.vkg_algebra.specs.Visible.{AddsEach, pattern_variables}
use Rattle.vkg_algebra.proofs.visible_variables.add_patterns.Given as goal

abbrev pub invariant-loop-pattern : goal.invariant-loop-pattern
invariant-loop-pattern l = AddsEach (flat_map pattern_variables (take l.pattern-index l.patterns)) l.initial.found l.found
