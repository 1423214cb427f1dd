use Rattle.std.proofs.Common.{◌∙◌, Some, None, sym, ap}
use Rattle.std.specs.Option.{option_copied}
use Rattle.vkg_schema.specs.Rows.{cell_at}
use Rattle.vkg_store.proofs.RowLemmas.{cell-of-row}
use Rattle.vkg_store.proofs.table_row.TableRow.cell.Goals as goal

pub returns-in-Some : goal.returns-in-Some
returns-in-Some c =
    let s = c.self.inside in
    c.cell.ensures
    ∙ sym (cell-of-row s.texts.now s.at s.columns.now c.args.column (Some c.in-Some.column.now) (sym (ap option_copied c.in-Some.is) ∙ c.at.ensures)) ∙ ap (λ row. cell_at row c.args.column) c.self.view_is

pub returns-in-None : goal.returns-in-None
returns-in-None c =
    let s = c.self.inside in
    c.null.ensures
    ∙ sym (cell-of-row s.texts.now s.at s.columns.now c.args.column None (sym (ap option_copied c.in-None.is) ∙ c.at.ensures)) ∙ ap (λ row. cell_at row c.args.column) c.self.view_is
