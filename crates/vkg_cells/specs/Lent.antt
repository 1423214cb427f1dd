-- The cell that a lent cell stands for.
use Rattle.vkg_cells.specs.declared.cell.Cell.{Cell}
use Rattle.vkg_cells.specs.declared.cell.Cell.TheVariants as cell
use Rattle.vkg_cells.specs.declared.cell_ref.Lent.{Lent}
use Rattle.vkg_cells.specs.declared.cell_ref.Lent.TheVariants as lent

abbrev pub lent_cell : Lent → Cell
lent_cell lent.Null = cell.Null
lent_cell (lent.Text text) = cell.Text text.now
lent_cell (lent.Int text) = cell.Int text.now
lent_cell (lent.Dec text) = cell.Dec text.now
lent_cell (lent.Bool truth) = cell.Bool truth
lent_cell (lent.Date text) = cell.Date text.now
lent_cell (lent.Stamp text) = cell.Stamp text.now
lent_cell (lent.Bin text) = cell.Bin text.now
lent_cell (lent.Time text) = cell.Time text.now
lent_cell (lent.Term term) = cell.Term term.now
