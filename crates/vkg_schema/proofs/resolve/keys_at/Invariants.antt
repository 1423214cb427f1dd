use Rattle.std.proofs.Common.{◌≡◌, take}
use Rattle.vkg_schema.specs.Resolve.{keys_at}
use Rattle.vkg_schema.proofs.resolve.keys_at.Given as goal

abbrev pub invariant-loop-k : goal.invariant-loop-k
invariant-loop-k l = l.out ≡ keys_at l.columns (take l.k-index l.keys)
