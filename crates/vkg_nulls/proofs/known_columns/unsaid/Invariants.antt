-- A flag for each item until here.
use Rattle.std.proofs.Common.{◌≡◌, take}
use Rattle.vkg_nulls.specs.KnownColumns.{unsaid}
use Rattle.vkg_nulls.proofs.known_columns.unsaid.Given as goal

abbrev pub invariant-loop : goal.invariant-loop
invariant-loop g l = l.flags ≡ unsaid (take l.index l.items)
