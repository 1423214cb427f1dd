-- Cells and rows that are one are equal.
use Rattle.std.proofs.Common.{◌≡◌, refl, sym, ◌∙◌, ap, true}
use Rattle.std.specs.Cmp.{booleans_Decides}
use Rattle.vkg_lists.proofs.Texts.{bytes_test}
use Rattle.vkg_lists.specs.Sets.{IsEqualityTest}
use Rattle.vkg_lists.proofs.Counts.{eq_itself, eq_same}
use Rattle.vkg_lists.proofs.Tests.{list_test}
use Rattle.vkg_terms.proofs.SameLemmas.{terms_apart}
use Rattle.vkg_cells.specs.declared.cell.Cell.{Cell}
use Rattle.vkg_cells.specs.declared.cell.Cell.TheVariants as cell
use Rattle.vkg_plan.specs.Rows.{one_cell, one_row}

same_cell : (a b : Cell) → one_cell a b ≡ true → a ≡ b
same_cell cell.Null cell.Null e = refl
same_cell cell.Null (cell.Text y) e = cc
same_cell cell.Null (cell.Int y) e = cc
same_cell cell.Null (cell.Dec y) e = cc
same_cell cell.Null (cell.Bool y) e = cc
same_cell cell.Null (cell.Date y) e = cc
same_cell cell.Null (cell.Stamp y) e = cc
same_cell cell.Null (cell.Bin y) e = cc
same_cell cell.Null (cell.Time y) e = cc
same_cell cell.Null (cell.Term y) e = cc
same_cell (cell.Text x) cell.Null e = cc
same_cell (cell.Text x) (cell.Text y) e = ap cell.Text (eq_same bytes_test x y e)
same_cell (cell.Text x) (cell.Int y) e = cc
same_cell (cell.Text x) (cell.Dec y) e = cc
same_cell (cell.Text x) (cell.Bool y) e = cc
same_cell (cell.Text x) (cell.Date y) e = cc
same_cell (cell.Text x) (cell.Stamp y) e = cc
same_cell (cell.Text x) (cell.Bin y) e = cc
same_cell (cell.Text x) (cell.Time y) e = cc
same_cell (cell.Text x) (cell.Term y) e = cc
same_cell (cell.Int x) cell.Null e = cc
same_cell (cell.Int x) (cell.Text y) e = cc
same_cell (cell.Int x) (cell.Int y) e = ap cell.Int (eq_same bytes_test x y e)
same_cell (cell.Int x) (cell.Dec y) e = cc
same_cell (cell.Int x) (cell.Bool y) e = cc
same_cell (cell.Int x) (cell.Date y) e = cc
same_cell (cell.Int x) (cell.Stamp y) e = cc
same_cell (cell.Int x) (cell.Bin y) e = cc
same_cell (cell.Int x) (cell.Time y) e = cc
same_cell (cell.Int x) (cell.Term y) e = cc
same_cell (cell.Dec x) cell.Null e = cc
same_cell (cell.Dec x) (cell.Text y) e = cc
same_cell (cell.Dec x) (cell.Int y) e = cc
same_cell (cell.Dec x) (cell.Dec y) e = ap cell.Dec (eq_same bytes_test x y e)
same_cell (cell.Dec x) (cell.Bool y) e = cc
same_cell (cell.Dec x) (cell.Date y) e = cc
same_cell (cell.Dec x) (cell.Stamp y) e = cc
same_cell (cell.Dec x) (cell.Bin y) e = cc
same_cell (cell.Dec x) (cell.Time y) e = cc
same_cell (cell.Dec x) (cell.Term y) e = cc
same_cell (cell.Bool x) cell.Null e = cc
same_cell (cell.Bool x) (cell.Text y) e = cc
same_cell (cell.Bool x) (cell.Int y) e = cc
same_cell (cell.Bool x) (cell.Dec y) e = cc
same_cell (cell.Bool x) (cell.Bool y) e = ap cell.Bool ((booleans_Decides x y).0 e)
same_cell (cell.Bool x) (cell.Date y) e = cc
same_cell (cell.Bool x) (cell.Stamp y) e = cc
same_cell (cell.Bool x) (cell.Bin y) e = cc
same_cell (cell.Bool x) (cell.Time y) e = cc
same_cell (cell.Bool x) (cell.Term y) e = cc
same_cell (cell.Date x) cell.Null e = cc
same_cell (cell.Date x) (cell.Text y) e = cc
same_cell (cell.Date x) (cell.Int y) e = cc
same_cell (cell.Date x) (cell.Dec y) e = cc
same_cell (cell.Date x) (cell.Bool y) e = cc
same_cell (cell.Date x) (cell.Date y) e = ap cell.Date (eq_same bytes_test x y e)
same_cell (cell.Date x) (cell.Stamp y) e = cc
same_cell (cell.Date x) (cell.Bin y) e = cc
same_cell (cell.Date x) (cell.Time y) e = cc
same_cell (cell.Date x) (cell.Term y) e = cc
same_cell (cell.Stamp x) cell.Null e = cc
same_cell (cell.Stamp x) (cell.Text y) e = cc
same_cell (cell.Stamp x) (cell.Int y) e = cc
same_cell (cell.Stamp x) (cell.Dec y) e = cc
same_cell (cell.Stamp x) (cell.Bool y) e = cc
same_cell (cell.Stamp x) (cell.Date y) e = cc
same_cell (cell.Stamp x) (cell.Stamp y) e = ap cell.Stamp (eq_same bytes_test x y e)
same_cell (cell.Stamp x) (cell.Bin y) e = cc
same_cell (cell.Stamp x) (cell.Time y) e = cc
same_cell (cell.Stamp x) (cell.Term y) e = cc
same_cell (cell.Bin x) cell.Null e = cc
same_cell (cell.Bin x) (cell.Text y) e = cc
same_cell (cell.Bin x) (cell.Int y) e = cc
same_cell (cell.Bin x) (cell.Dec y) e = cc
same_cell (cell.Bin x) (cell.Bool y) e = cc
same_cell (cell.Bin x) (cell.Date y) e = cc
same_cell (cell.Bin x) (cell.Stamp y) e = cc
same_cell (cell.Bin x) (cell.Bin y) e = ap cell.Bin (eq_same bytes_test x y e)
same_cell (cell.Bin x) (cell.Time y) e = cc
same_cell (cell.Bin x) (cell.Term y) e = cc
same_cell (cell.Time x) cell.Null e = cc
same_cell (cell.Time x) (cell.Text y) e = cc
same_cell (cell.Time x) (cell.Int y) e = cc
same_cell (cell.Time x) (cell.Dec y) e = cc
same_cell (cell.Time x) (cell.Bool y) e = cc
same_cell (cell.Time x) (cell.Date y) e = cc
same_cell (cell.Time x) (cell.Stamp y) e = cc
same_cell (cell.Time x) (cell.Bin y) e = cc
same_cell (cell.Time x) (cell.Time y) e = ap cell.Time (eq_same bytes_test x y e)
same_cell (cell.Time x) (cell.Term y) e = cc
same_cell (cell.Term x) cell.Null e = cc
same_cell (cell.Term x) (cell.Text y) e = cc
same_cell (cell.Term x) (cell.Int y) e = cc
same_cell (cell.Term x) (cell.Dec y) e = cc
same_cell (cell.Term x) (cell.Bool y) e = cc
same_cell (cell.Term x) (cell.Date y) e = cc
same_cell (cell.Term x) (cell.Stamp y) e = cc
same_cell (cell.Term x) (cell.Bin y) e = cc
same_cell (cell.Term x) (cell.Time y) e = cc
same_cell (cell.Term x) (cell.Term y) e = ap cell.Term (eq_same terms_apart x y e)

cell_itself : (a : Cell) → one_cell a a ≡ true
cell_itself cell.Null = refl
cell_itself (cell.Text x) = eq_itself bytes_test x
cell_itself (cell.Int x) = eq_itself bytes_test x
cell_itself (cell.Dec x) = eq_itself bytes_test x
cell_itself (cell.Bool x) = (booleans_Decides x x).1 refl
cell_itself (cell.Date x) = eq_itself bytes_test x
cell_itself (cell.Stamp x) = eq_itself bytes_test x
cell_itself (cell.Bin x) = eq_itself bytes_test x
cell_itself (cell.Time x) = eq_itself bytes_test x
cell_itself (cell.Term x) = eq_itself terms_apart x

cells_apart : IsEqualityTest one_cell
cells_apart = record { decides = λ a b. (same_cell a b, λ e. ap (λ c. one_cell a c) (sym e) ∙ cell_itself a) }

pub rows_apart : IsEqualityTest one_row
rows_apart = list_test cells_apart
