-- The cells that values stand for.
use Rattle.vkg_cells.specs.declared.cell.Cell.{Cell}
use Rattle.vkg_eval.specs.declared.value.Held.{Held}
use Rattle.vkg_eval.specs.declared.value.Held.TheVariants as held

abbrev pub held_cell : Held → Cell
held_cell (held.Lent c) = c
held_cell (held.Own c) = c
