-- Expressions that make terms, as expressions over a row.
use Rattle.std.specs.Prelude.{ℕ, ◌+◌, List, [], ◌∷◌, map}
use Rattle.vkg_terms.specs.declared.term.Term.{Term}
use Rattle.vkg_cells.specs.declared.cell.Cell.TheVariants as cell
use Rattle.vkg_cells.specs.declared.cell.SqlType.TheVariants as kind
use Rattle.vkg_expr.specs.declared.term_expr.Sort.{Sort}
use Rattle.vkg_expr.specs.declared.term_expr.Sort.TheVariants.{OfIri, OfBlank, OfLit}
use Rattle.vkg_expr.specs.declared.term_expr.Piece.{Piece}
use Rattle.vkg_expr.specs.declared.term_expr.Piece.TheVariants.{Chars, Hole}
use Rattle.vkg_expr.specs.declared.term_expr.TermExpr.{TermExpr}
use Rattle.vkg_expr.specs.declared.term_expr.TermExpr.TheVariants.{Fixed, Made, Resolved}
use Rattle.vkg_expr.specs.Expr.{Expr, Col, Const, MakeIri, IriOf, MakeBlank, MakeLit, Lex, IriSafe, Concat, exprs}

abbrev pub text_const : List ℕ → Expr
text_const s = Const (cell.Text s) kind.Text

abbrev pub term_const : Term → Expr
term_const t = Const (cell.Term t) kind.Term

-- a piece as a text: a hole's lexical form, which is made safe in an IRI
abbrev pub piece_expr : Sort → Piece → Expr
piece_expr sort (Chars s) = text_const s
piece_expr OfIri (Hole at k) = IriSafe (Lex (Col at))
piece_expr sort (Hole at k) = Lex (Col at)

-- one piece alone, or several in a Concat
abbrev pub pieces_expr : Sort → List Piece → Expr
pieces_expr sort [] = text_const []
pieces_expr sort (p ∷ []) = piece_expr sort p
pieces_expr sort (p ∷ q ∷ ps) = Concat (exprs (map (piece_expr sort) (p ∷ q ∷ ps)))

abbrev pub made : Sort → Expr → Expr
made OfIri e = MakeIri e
made OfBlank e = MakeBlank e
made (OfLit k) e = MakeLit e k

abbrev pub term_expr : TermExpr → Expr
term_expr (Fixed t) = term_const t
term_expr (Made sort ps) = made sort (pieces_expr sort ps)
term_expr (Resolved base at k) = MakeIri (IriOf base (Lex (Col at)))

-- each column moved to the right
abbrev pub moved_piece : ℕ → Piece → Piece
moved_piece n (Chars s) = Chars s
moved_piece n (Hole at k) = Hole (at + n) k

abbrev pub moved_term : ℕ → TermExpr → TermExpr
moved_term n (Fixed t) = Fixed t
moved_term n (Made sort ps) = Made sort (map (moved_piece n) ps)
moved_term n (Resolved base at k) = Resolved base (at + n) k
