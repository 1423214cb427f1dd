use Rattle.std.proofs.Common.{◌≡◌, take}
use Rattle.vkg_algebra.specs.Visible.{each_once}
use Rattle.vkg_algebra.proofs.selected.each_once.Given as goal

abbrev pub invariant-loop-variable : goal.invariant-loop-variable
invariant-loop-variable l = l.found ≡ each_once (take l.variable-index l.variables)
