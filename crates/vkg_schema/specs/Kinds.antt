-- The columns of a table, and their kinds.
use Rattle.std.specs.Prelude.{ℕ, List, [], map, slice_get, Option, option_map}
use Rattle.std.specs.Option.{option_map_or}
use Rattle.vkg_cells.specs.declared.cell.SqlType.{SqlType}
use Rattle.vkg_schema.specs.declared.table.Column.{Column}
use Rattle.vkg_schema.specs.declared.table.Table.{Table}

-- where the schema has the table
abbrev pub table_kinds : List Table → ℕ → Option (List SqlType)
table_kinds schema table = option_map (λ t. map (λ c. c.kind) t.columns) (slice_get schema table)

-- the columns of a table, and none where the schema does not have it
abbrev pub columns_of : List Table → ℕ → List Column
columns_of schema table = option_map_or (λ t. t.columns) (slice_get schema table) []
