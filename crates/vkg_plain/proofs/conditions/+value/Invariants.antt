use Rattle.std.proofs.Common.{◌≡◌, map, take}
use Rattle.vkg_sparql.specs.Seen.{condition_seen}
use Rattle.vkg_algebra.specs.Values.{expression_value}
use Rattle.vkg_plain.proofs.conditions.+value.Given as goal

abbrev pub invariant-values-loop-condition : goal.invariant-values-loop-condition
invariant-values-loop-condition l = l.found ≡ map (λ c. expression_value (condition_seen c) l.solution) (take l.condition-index l.conditions)
