use Rattle.std.proofs.Common.{◌≡◌, map, take}
use Rattle.vkg_algebra.specs.Answer.{found_of}
use Rattle.vkg_plain.proofs.lines.candidates.Given as goal

abbrev pub invariant-loop-row : goal.invariant-loop-row
invariant-loop-row l = l.found.items ≡ map (found_of l.width) (take l.row-index l.rows)
