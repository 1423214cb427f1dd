use Rattle.std.proofs.Common.{◌≡◌, take}
use Rattle.vkg_schema.specs.Resolve.{columns_at}
use Rattle.vkg_schema.proofs.resolve.columns_at.Given as goal

abbrev pub invariant-loop-c : goal.invariant-loop-c
invariant-loop-c l = l.out ≡ columns_at l.keys (take l.c-index l.columns)
