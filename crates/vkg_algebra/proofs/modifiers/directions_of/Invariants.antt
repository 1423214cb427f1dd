use Rattle.std.proofs.Common.{◌≡◌, map, take}
use Rattle.vkg_sparql.specs.Seen.{key_seen}
use Rattle.vkg_algebra.specs.Answer.{direction_of}
use Rattle.vkg_algebra.proofs.modifiers.directions_of.Given as goal

abbrev pub invariant-loop-key : goal.invariant-loop-key
invariant-loop-key l = l.directions ≡ map direction_of (map key_seen (take l.key-index l.keys))
