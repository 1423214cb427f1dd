use Rattle.std.proofs.Common.{◌≡◌, map, take}
use Rattle.vkg_sparql.specs.Seen.{condition_seen}
use Rattle.vkg_algebra.specs.Solutions.{extended}
use Rattle.vkg_algebra.specs.Values.{expression_value}
use Rattle.vkg_plain.proofs.extend.extend.Given as goal

abbrev pub invariant-loop-row : goal.invariant-loop-row
invariant-loop-row l = l.out ≡ map (λ s. extended l.variable (expression_value (condition_seen l.condition) s) s) (take l.row-index l.rows)
