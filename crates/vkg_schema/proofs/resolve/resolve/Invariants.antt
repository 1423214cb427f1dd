use Rattle.std.proofs.Common.{◌≡◌, take}
use Rattle.std.specs.Prelude.{map}
use Rattle.vkg_schema.specs.Resolve.{table_at}
use Rattle.vkg_schema.proofs.resolve.resolve.Given as goal

abbrev pub invariant-loop-t : goal.invariant-loop-t
invariant-loop-t l = l.out ≡ map (table_at l.tables) (take l.t-index l.tables)
