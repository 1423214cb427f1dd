-- The key that a lent one stands for.
use Rattle.std.specs.Prelude.{ℕ}
use Rattle.vkg_cells.specs.declared.cell.Cell.{Cell}
use Rattle.vkg_cells.specs.declared.cell.Cell.TheVariants as cell
use Rattle.vkg_order.specs.declared.sort_key.SortKey.{SortKey}
use Rattle.vkg_order.specs.declared.sort_key.SortKey.TheVariants as lent
use Rattle.vkg_order.specs.Values.{literal_text}

abbrev pub lent_key : SortKey → ℕ × Cell
lent_key lent.Unbound = (0, cell.Null)
lent_key (lent.Blank label) = (1, cell.Text label.now)
lent_key (lent.Iri iri) = (2, cell.Text iri.now)
lent_key (lent.Number text) = (3, cell.Dec text.now)
lent_key (lent.Plain text) = (4, cell.Text text.now)
lent_key (lent.Truth truth) = (5, cell.Bool truth)
lent_key (lent.Moment form) = (6, cell.Stamp form.now)
lent_key (lent.Date form) = (7, cell.Date form.now)
lent_key (lent.Other text annotation) = (8, cell.Text (literal_text text.now annotation.now))
