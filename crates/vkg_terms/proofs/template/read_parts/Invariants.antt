use Rattle.std.proofs.Common.{◌≡◌, fold}
use Rattle.vkg_terms.specs.TemplateReader.{state, start, step}
use Rattle.vkg_terms.proofs.template.read_parts.Given as goal

abbrev pub invariant-loop-c : goal.invariant-loop-c
invariant-loop-c l = state l.reader ≡ fold step start l.yielded
