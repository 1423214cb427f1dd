-- A cell of a table's column fits a hole of the column's kind.
use Rattle.std.proofs.Common.{◌≡◌, ◌≢◌, ◌⊎◌, inl, inr, refl}
use Rattle.vkg_cells.specs.declared.cell.SqlType.{SqlType}
use Rattle.vkg_cells.specs.declared.cell.SqlType.TheVariants as kind
use Rattle.vkg_cells.specs.declared.cell.Cell.{Cell}
use Rattle.vkg_cells.specs.declared.cell.Cell.TheVariants as cell
use Rattle.vkg_cells.specs.Form.{IsOfKind}
use Rattle.vkg_schema.specs.declared.table.Column.{Column}
use Rattle.vkg_schema.specs.Meets.{FitsColumn, IsColumn}
use Rattle.vkg_match.specs.Laws.{FitsHole}

pub fits_kind : (k : SqlType) (c : Cell) → k ≢ kind.Term → (c ≡ cell.Null) ⊎ IsOfKind k c → FitsHole k c
fits_kind k c n (inl e) = inl e
fits_kind kind.Text c n (inr h) = inr h
fits_kind kind.Int c n (inr h) = inr h
fits_kind kind.Dec c n (inr h) = inr h
fits_kind kind.Bool c n (inr h) = inr h
fits_kind kind.Date c n (inr h) = inr h
fits_kind kind.Stamp c n (inr h) = inr h
fits_kind kind.Bin c n (inr h) = inr h
fits_kind kind.Time c n (inr h) = inr h
fits_kind kind.Term c n (inr h) = absurd (n refl)

pub fits_column : (column : Column) (c : Cell) → IsColumn column → FitsColumn column c → FitsHole column.kind c
fits_column column c h f = fits_kind column.kind c h.kind f.kind
