use Rattle.std.proofs.Common.{◌∙◌, ap, map}
use Rattle.vkg_schema.specs.Rows.{cell_at}
use Rattle.vkg_tables.proofs.database.Database.column.Goals as goal

pub returns : goal.returns
returns c = c.column.ensures ∙ ap (map (λ row. cell_at row c.args.column)) c.table.ensures.rows
