-- A term map as an expression over a row, whose cells have the kinds of the table's columns.
use Rattle.std.specs.Prelude.{ℕ, List, [], ◌∷◌, map, slice_get, unwrap_or}
use Rattle.vkg_cells.specs.declared.cell.SqlType.{SqlType}
use Rattle.vkg_cells.specs.declared.cell.SqlType.TheVariants as kind
use Rattle.vkg_maps.specs.declared.term_map.TermMap.{TermMap}
use Rattle.vkg_maps.specs.declared.term_map.TermMap.TheVariants as from
use Rattle.vkg_maps.specs.declared.term_map.Piece.{Piece as TemplatePiece}
use Rattle.vkg_maps.specs.declared.term_map.Piece.TheVariants as piece
use Rattle.vkg_maps.specs.declared.term_map.TermType.{TermType}
use Rattle.vkg_maps.specs.declared.term_map.TermType.TheVariants as type
use Rattle.vkg_expr.specs.declared.term_expr.Sort.{Sort}
use Rattle.vkg_expr.specs.declared.term_expr.Sort.TheVariants.{OfIri, OfBlank, OfLit}
use Rattle.vkg_expr.specs.declared.term_expr.Piece.{Piece}
use Rattle.vkg_expr.specs.declared.term_expr.Piece.TheVariants.{Chars, Hole}
use Rattle.vkg_expr.specs.declared.term_expr.TermExpr.{TermExpr}
use Rattle.vkg_expr.specs.declared.term_expr.TermExpr.TheVariants.{Fixed, Made, Resolved}

-- R2RML, 7.4: the term types
abbrev pub sort_of : TermType → Sort
sort_of type.Iri = OfIri
sort_of type.Blank = OfBlank
sort_of (type.Literal annotation) = OfLit annotation

abbrev pub kind_at : List SqlType → ℕ → SqlType
kind_at ks column = unwrap_or (slice_get ks column) kind.Text

-- a column is a hole of its kind
abbrev pub hole : List SqlType → ℕ → Piece
hole ks column = Hole column (kind_at ks column)

abbrev pub piece_of : List SqlType → TemplatePiece → Piece
piece_of ks (piece.Fixed text) = Chars text
piece_of ks (piece.Column column) = hole ks column

-- R2RML, 7.2: the form of a column; as an IRI it is put behind the base where it is not absolute (7.4)
abbrev pub column_term : List ℕ → List SqlType → ℕ → TermType → TermExpr
column_term base ks column type.Iri = Resolved base column (kind_at ks column)
column_term base ks column t = Made (sort_of t) (hole ks column ∷ [])

-- R2RML, 7: by constant, column or template
abbrev pub row_term : List ℕ → List SqlType → TermMap → TermExpr
row_term base ks (from.Constant term) = Fixed term
row_term base ks (from.Column column t) = column_term base ks column t
row_term base ks (from.Template pieces t) = Made (sort_of t) (map (piece_of ks) pieces)
