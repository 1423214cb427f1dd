use Rattle.std.proofs.Common.{◌≡◌, map, take}
use Rattle.vkg_unique.proofs.sure.not_null_columns.Given as goal

abbrev pub invariant-loop-column : goal.invariant-loop-column
invariant-loop-column l = l.flags ≡ map (λ c. c.not_null) (take l.column-index l.columns)
