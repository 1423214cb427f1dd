use Rattle.std.proofs.Common.{◌∙◌, ap}
use Rattle.vkg_schema.specs.Rows.{rows_of}
use Rattle.vkg_tables.specs.Kept.{tables_seen}
use Rattle.vkg_tables.proofs.database.Database.table.Goals as goal

pub returns-clause-rows : goal.returns-clause-rows
returns-clause-rows c = c.rows_at.ensures ∙ ap (λ ts. rows_of (tables_seen c.self.inside.texts ts) c.args.table) c.as_slice.ensures ∙ ap (λ s. rows_of s.tables c.args.table) c.self.view_is
