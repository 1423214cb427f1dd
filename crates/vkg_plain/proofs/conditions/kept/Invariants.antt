use Rattle.std.proofs.Common.{◌≡◌, take}
use Rattle.std.specs.List.{filter}
use Rattle.vkg_sparql.specs.Seen.{condition_seen}
use Rattle.vkg_algebra.specs.Values.{holds}
use Rattle.vkg_plain.proofs.conditions.kept.Given as goal

abbrev pub invariant-loop-row : goal.invariant-loop-row
invariant-loop-row l = l.out ≡ filter (holds (condition_seen l.condition)) (take l.row-index l.rows)
