use Rattle.std.proofs.Common.{◌≡◌, take}
use Rattle.vkg_algebra.specs.Answer.{projected}
use Rattle.vkg_plain.proofs.answering.projected.Given as goal

abbrev pub invariant-loop-variable : goal.invariant-loop-variable
invariant-loop-variable l = l.out ≡ projected (take l.variable-index l.variables) l.solution
