-- The conditions that were found, and those of the parts that are left, are all.
use Rattle.std.proofs.Common.{◌≡◌, ◌++◌, map, drop}
use Rattle.vkg_sparql.specs.Seen.{condition_seen, group_seen}
use Rattle.vkg_algebra.specs.Translation.{elements, tests_of}
use Rattle.vkg_algebra.proofs.filters.conditions.Given as goal

abbrev pub invariant-loop-part : goal.invariant-loop-part
invariant-loop-part l = map condition_seen l.found ++ tests_of (elements (group_seen (drop l.part-index l.parts))) ≡ tests_of (elements (group_seen l.parts))
