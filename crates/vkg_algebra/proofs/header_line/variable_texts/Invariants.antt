use Rattle.std.proofs.Common.{◌≡◌, map, slice_get, take}
use Rattle.vkg_algebra.specs.Answer.{variable_text}
use Rattle.vkg_algebra.proofs.header_line.variable_texts.Given as goal

abbrev pub invariant-loop-variable : goal.invariant-loop-variable
invariant-loop-variable l = l.texts ≡ map (λ v. variable_text (slice_get l.names v)) (take l.variable-index l.variables)
