use Rattle.std.proofs.Common.{◌≡◌, ◌++◌, map, take}
use Rattle.vkg_sparql.specs.Seen.{key_seen}
use Rattle.vkg_algebra.specs.Answer.{key_values, projected}
use Rattle.vkg_plain.proofs.answering.with_keys.Given as goal

abbrev pub invariant-loop-key : goal.invariant-loop-key
invariant-loop-key l = l.out ≡ projected l.variables l.solution ++ key_values (map key_seen (take l.key-index l.keys)) l.solution
