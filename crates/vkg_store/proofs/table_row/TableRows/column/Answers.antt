use Rattle.std.proofs.Common.{◌∙◌, Some, None, map, sym, ap}
use Rattle.std.specs.Option.{option_copied}
use Rattle.vkg_schema.specs.Rows.{cell_at}
use Rattle.vkg_store.specs.Stored.{column_seen}
use Rattle.vkg_store.proofs.RowLemmas.{column-is}
use Rattle.vkg_store.proofs.table_row.TableRows.column.Goals as goal

pub returns-in-Some : goal.returns-in-Some
returns-in-Some c =
    let s = c.self.inside in
    let column = c.in-Some.column.now in
    c.new.ensures ∙ ap (λ ns. column_seen s.texts.now (record { kind = column.kind; numbers = ns }) s.rows) c.as_slice.ensures.value
    ∙ column-is s.texts.now s.rows s.columns.now c.args.at (Some column) (sym (ap option_copied c.in-Some.is) ∙ c.at.ensures) ∙ ap (map (λ row. cell_at row c.args.at)) c.self.view_is

pub returns-in-None : goal.returns-in-None
returns-in-None c =
    let s = c.self.inside in
    c.new-in-None.ensures
    ∙ column-is s.texts.now s.rows s.columns.now c.args.at None (sym (ap option_copied c.in-None.is) ∙ c.at.ensures) ∙ ap (map (λ row. cell_at row c.args.at)) c.self.view_is
