-- When a verdict is exact.
use Rattle.std.specs.Prelude.{◌≡◌, ◌⊎◌, ⊤, Bool, false, ℕ, List, Ok, IsUtf8}
use Rattle.std.specs.List.{AllByRecursion, list_all}
use Rattle.vkg_terms.specs.Same.{term_name}
use Rattle.vkg_cells.specs.declared.cell.SqlType.{SqlType}
use Rattle.vkg_cells.specs.declared.cell.Cell.{Cell}
use Rattle.vkg_cells.specs.declared.cell.Cell.TheVariants as cell
use Rattle.vkg_cells.specs.Field.{cell_of_field}
use Rattle.vkg_schema.specs.Rows.{Row, cell_at}
use Rattle.vkg_expr.specs.declared.term_expr.Piece.{Piece}
use Rattle.vkg_expr.specs.declared.term_expr.Piece.TheVariants.{Chars, Hole}
use Rattle.vkg_expr.specs.declared.term_expr.TermExpr.{TermExpr}
use Rattle.vkg_expr.specs.declared.term_expr.TermExpr.TheVariants.{Fixed, Made, Resolved}
use Rattle.vkg_expr.specs.Expr.{Same}
use Rattle.vkg_expr.specs.TermExprs.{term_expr}
use Rattle.vkg_expr.specs.Value.{holds}
use Rattle.vkg_match.specs.Verdict.{Verdict, Never, All}

-- the cell is NULL, or one that some text is read as in a column of the kind
abbrev pub FitsHole : SqlType → Cell → Type 0
FitsHole k c = (c ≡ cell.Null) ⊎ ((text : List ℕ) × IsUtf8 text × (cell_of_field k text ≡ Ok c))

-- the constants are texts
abbrev pub IsTextPiece : Piece → Type 0
IsTextPiece (Chars text) = IsUtf8 text
IsTextPiece (Hole at k) = ⊤

abbrev pub HoldsTexts : TermExpr → Type 0
HoldsTexts (Fixed t) = IsUtf8 (term_name t)
HoldsTexts (Made sort ps) = AllByRecursion IsTextPiece ps
HoldsTexts (Resolved base at k) = ⊤

-- the row's cells fit the holes that are compared by cells or forms
abbrev pub FitsPiece : Row → Piece → Type 0
FitsPiece row (Chars text) = ⊤
FitsPiece row (Hole at k) = FitsHole k (cell_at row at)

abbrev pub FitsHoles : Row → TermExpr → Type 0
FitsHoles row (Fixed t) = ⊤
FitsHoles row (Made sort ps) = AllByRecursion (FitsPiece row) ps
FitsHoles row (Resolved base at k) = ⊤

-- all equalities of a verdict are true on the row
abbrev pub is_met : Verdict → Row → Bool
is_met Never row = false
is_met (All es) row = list_all (λ c. holds c row) es

-- SQL-92, 8.2: the equality of the two terms is true exactly where the verdict is met; so it is not where a hole is NULL
abbrev pub IsExact : TermExpr → TermExpr → Verdict → Type 0
IsExact e f v = HoldsTexts e → HoldsTexts f → (row : Row) → FitsHoles row e → FitsHoles row f → holds (Same (term_expr e) (term_expr f)) row ≡ is_met v row
