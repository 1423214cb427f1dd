use Rattle.std.proofs.Common.{◌≡◌, take}
use Rattle.vkg_schema.proofs.copy.copy_columns.Given as goal

abbrev pub invariant-loop-column : goal.invariant-loop-column
invariant-loop-column l = l.copies ≡ take l.column-index l.column-items
