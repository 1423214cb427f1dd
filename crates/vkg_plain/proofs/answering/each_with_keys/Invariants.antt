use Rattle.std.proofs.Common.{◌≡◌, ◌++◌, map, take}
use Rattle.vkg_sparql.specs.Seen.{key_seen}
use Rattle.vkg_algebra.specs.Answer.{key_values, projected}
use Rattle.vkg_plain.proofs.answering.each_with_keys.Given as goal

abbrev pub invariant-loop-row : goal.invariant-loop-row
invariant-loop-row l = l.out ≡ map (λ s. projected l.variables s ++ key_values (map key_seen l.keys) s) (take l.row-index l.rows)
