use Rattle.std.proofs.Common.{◌≡◌, take}
use Rattle.std.specs.Prelude.{map}
use Rattle.vkg_schema.specs.Resolve.{reference_at}
use Rattle.vkg_schema.proofs.resolve.references_at.Given as goal

abbrev pub invariant-loop-r : goal.invariant-loop-r
invariant-loop-r l = l.out ≡ map (reference_at l.tables l.child) (take l.r-index l.r-items)
