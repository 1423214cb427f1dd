use Rattle.std.proofs.Common.{◌≡◌, map, take}
use Rattle.vkg_store.specs.Held.{held, without_rows}
use Rattle.vkg_store.proofs.stored_table.empty_columns.Given as goal

abbrev pub invariant-loop-column : goal.invariant-loop-column
invariant-loop-column l = map (held 0) l.kept.items ≡ map without_rows (take l.column-index l.columns)
