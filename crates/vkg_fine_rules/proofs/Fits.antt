-- The cells of a rule's rows are of the kinds of its holes.
use Rattle.std.proofs.Common.{◌≡◌, ℕ, zero, suc, ◌<◌, List, [], ◌∷◌, ◌++◌, map, length, sym, subst, arith}
use Rattle.std.specs.Prelude.{Contains, flat_map}
use Rattle.std.specs.List.{AllByRecursion, AllZip}
use Rattle.vkg_lists.specs.Lists.{AllBelow}
use Rattle.vkg_lists.proofs.Each.{recursion_get}
use Rattle.vkg_cells.specs.declared.cell.SqlType.{SqlType}
use Rattle.vkg_schema.specs.declared.table.Column.{Column}
use Rattle.vkg_schema.specs.Meets.{FitsColumn, IsColumn, IsTable, MeetsSchema}
use Rattle.vkg_schema.specs.Rows.{Database, Row, cell_at, rows_of}
use Rattle.vkg_schema.proofs.RowCells.{cell_at-left}
use Rattle.vkg_schema.proofs.RowFits.{row_of_table}
use Rattle.vkg_maps.proofs.TableKinds.{kinds_of}
use Rattle.vkg_maps.specs.declared.term_map.Piece.{Piece as TemplatePiece}
use Rattle.vkg_maps.specs.declared.term_map.Piece.TheVariants as piece
use Rattle.vkg_maps.specs.declared.term_map.TermMap.{TermMap}
use Rattle.vkg_maps.specs.declared.term_map.TermMap.TheVariants as from
use Rattle.vkg_maps.specs.declared.term_map.TermType.TheVariants as sort
use Rattle.vkg_match.specs.Laws.{FitsHole, FitsHoles, FitsPiece}
use Rattle.vkg_match.proofs.Fits.{fits_column}
use Rattle.vkg_plan.specs.Kinds.{Tables}
use Rattle.vkg_row_rules.specs.RowTerms.{kind_at, piece_of, row_term}
use Rattle.vkg_maps.specs.Within.{IsOver, piece_columns, kinds_at}

-- each cell is of its column's kind
abbrev pub FitsKinds : List SqlType → Row → Type 0
FitsKinds ks row = (at : ℕ) → at < length ks → FitsHole (kind_at ks at) (cell_at row at)

fits_columns : (columns : List Column) (row : Row) → AllByRecursion IsColumn columns → AllZip FitsColumn columns row → FitsKinds (map (λ (c : Column). c.kind) columns) row
fits_columns [] row i h at l = absurd (let n : at < 0 = l in omega (arith, n))
fits_columns (c ∷ cs) [] i h at l = absurd h
fits_columns (c ∷ cs) (d ∷ ds) i h zero l = fits_column c d i.0 h.0
fits_columns (c ∷ cs) (d ∷ ds) i h (suc at) l = fits_columns cs ds i.1 h.1 at (omega (arith, l))

pub fits_rows : (schema : Tables) (db : Database) → AllByRecursion (IsTable schema) schema → MeetsSchema schema db → (table : ℕ) (row : Row) → Contains (rows_of db table) row → FitsKinds (kinds_at schema table) row
fits_rows schema db w h table row c =
    let r = row_of_table db schema db h table row c in
    subst (λ ks. FitsKinds ks row) (sym (kinds_of schema table r.0 r.1)) (fits_columns r.0.columns row (recursion_get (IsTable schema) schema table r.0 w r.1).columns r.2)

-- ---- of the child's row, with another behind it

module _ (ks : List SqlType) (r s : Row) (width : length ks ≡ length r) (fits : FitsKinds ks r) where
  fits_before : (c : ℕ) → c < length ks → FitsHole (kind_at ks c) (cell_at (r ++ s) c)
  fits_before c l = subst (FitsHole (kind_at ks c)) (sym (cell_at-left r s c (subst (λ n. c < n) width l))) (fits c l)

  fits_pieces : (ps : List TemplatePiece) → AllBelow (length ks) (flat_map piece_columns ps) → AllByRecursion (FitsPiece (r ++ s)) (map (piece_of ks) ps)
  fits_pieces [] h = tt
  fits_pieces (piece.Fixed text ∷ ps) h = (tt, fits_pieces ps h)
  fits_pieces (piece.Column c ∷ ps) h = (fits_before c h.0, fits_pieces ps h.1)

  pub fits_holes : (base : List ℕ) (t : TermMap) → IsOver ks t → FitsHoles (r ++ s) (row_term base ks t)
  fits_holes base (from.Constant c) h = tt
  fits_holes base (from.Column c sort.Iri) h = tt
  fits_holes base (from.Column c sort.Blank) h = (fits_before c h.columns.0, tt)
  fits_holes base (from.Column c (sort.Literal a)) h = (fits_before c h.columns.0, tt)
  fits_holes base (from.Template ps y) h = fits_pieces ps h.columns
