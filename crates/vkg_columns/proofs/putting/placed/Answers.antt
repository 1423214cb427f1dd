-- Past the end of the list there is NULL.
use Rattle.std.proofs.Common.{◌∙◌, ap, sym}
use Rattle.std.specs.Prelude.{option_map, unwrap_or}
use Rattle.std.proofs.lemmas.Option.{slice_get_past}
use Rattle.vkg_cells.specs.declared.cell.Cell.TheVariants as cell
use Rattle.vkg_cells.specs.declared.cell.SqlType.TheVariants as kind
use Rattle.vkg_expr.specs.Expr.{Const}
use Rattle.vkg_expr.specs.Seen.{expr_seen}
use Rattle.vkg_columns.proofs.Lists.{place}
use Rattle.vkg_columns.proofs.SeenExprs.{seen-Const}
use Rattle.vkg_columns.proofs.putting.placed.Goals as goal

pub returns-in-None : goal.returns-in-None
returns-in-None c =
    let by = c.args.by.now in
    let at = c.args.at in
    seen-Const cell.Null kind.Text
    ∙ sym (place by at ∙ ap (λ o. unwrap_or (option_map expr_seen o) (Const cell.Null kind.Text)) (slice_get_past by at c.in-None.ensures.lookup.3))
