use Rattle.std.proofs.Common.{◌≡◌, take, map}
use Rattle.vkg_schema.specs.declared.table.Column.{Column}
use Rattle.vkg_plan.proofs.columns.column_kinds.Given as goal

abbrev pub invariant-loop-column : goal.invariant-loop-column
invariant-loop-column l = l.kinds ≡ map (λ (c : Column). c.kind) (take l.column-index l.columns)
