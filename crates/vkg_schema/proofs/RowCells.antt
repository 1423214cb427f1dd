-- The cells of a row with another behind it.
use Rattle.std.proofs.Common.{◌≡◌, ◌∙◌, ℕ, ◌+◌, ◌<◌, ◌++◌, length, sym, ap, arith}
use Rattle.std.specs.Prelude.{unwrap_or}
use Rattle.std.proofs.lemmas.List.{get_or_append_left}
use Rattle.std.proofs.lemmas.Option.{unwrap_or-slice_get}
use Rattle.vkg_lists.proofs.Heads.{slice_get-behind}
use Rattle.vkg_cells.specs.declared.cell.Cell.TheVariants as cell
use Rattle.vkg_schema.specs.Rows.{Row, cell_at}

pub cell_at-left : (l r : Row) (k : ℕ) → k < length l → cell_at (l ++ r) k ≡ cell_at l k
cell_at-left l r k h = unwrap_or-slice_get (l ++ r) k cell.Null ∙ get_or_append_left l r cell.Null k h ∙ sym (unwrap_or-slice_get l k cell.Null)

pub cell_at-right : (l r : Row) (m k : ℕ) → m ≡ length l + k → cell_at (l ++ r) m ≡ cell_at r k
cell_at-right l r m k e = ap (λ o. unwrap_or o cell.Null) (slice_get-behind l r m k (omega (arith, e)))
