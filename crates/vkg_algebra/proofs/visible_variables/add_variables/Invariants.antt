use Rattle.std.proofs.Common.{take}
use Rattle.vkg_algebra.specs.Visible.{AddsEach}
use Rattle.vkg_algebra.proofs.visible_variables.add_variables.Given as goal

abbrev pub invariant-loop-variable : goal.invariant-loop-variable
invariant-loop-variable l = AddsEach (take l.variable-index l.variables) l.initial.found l.found
