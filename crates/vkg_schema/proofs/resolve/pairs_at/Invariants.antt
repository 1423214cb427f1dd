use Rattle.std.proofs.Common.{◌≡◌}
use Rattle.std.specs.Prelude.{map}
use Rattle.std.specs.List.{range_with_len}
use Rattle.vkg_schema.specs.Resolve.{pair_at}
use Rattle.vkg_schema.proofs.resolve.pairs_at.Given as goal

abbrev pub invariant-loop-i : goal.invariant-loop-i
invariant-loop-i l = l.out ≡ map (pair_at l.left_columns l.right_columns l.left l.right) (range_with_len 0 l.i)
