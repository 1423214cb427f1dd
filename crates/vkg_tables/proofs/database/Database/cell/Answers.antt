use Rattle.std.proofs.Common.{◌≡◌, ◌∙◌, [], ap, sym, unwrap_or}
use Rattle.std.specs.Prelude.{slice_get}
use Rattle.std.proofs.lemmas.Result.{IfOk-weaker}
use Rattle.vkg_schema.specs.Rows.{cell_at, rows_of}
use Rattle.vkg_tables.proofs.database.Database.cell.Goals as goal

pub returns : goal.returns
returns c =
    let k = c.args.table in
    let row : unwrap_or (slice_get (rows_of c.args.self.now.tables k) c.args.row) [] ≡ c.row-row.result =
    ap (λ rs. unwrap_or (slice_get rs c.args.row) []) (sym c.table.ensures.rows) ∙ ap (λ o. unwrap_or o []) c.row-row.ensures in
    IfOk-weaker c.to_cell.result _ _ (λ v e. e ∙ c.cell.ensures ∙ ap (λ r. cell_at r c.args.column) (sym row)) c.to_cell.ensures
