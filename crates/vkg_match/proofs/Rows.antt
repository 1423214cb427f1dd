-- Worked rows.
use Rattle.std.specs.Prelude.{◌≡◌, ℕ, List, [], ◌∷◌, codes, refl, true, false}
use Rattle.std.specs.Char.{encode_utf8}
use Rattle.std.specs.Str.{chars, is_utf8}
use Rattle.hex.specs.Hex.{encode_with, decode_pairs}
use Rattle.percent_encoding.specs.Percent.{percent_decode}
use Rattle.vkg_terms.specs.declared.term.Term.TheVariants.{Iri, Blank}
use Rattle.vkg_terms.specs.declared.term.Annotation.TheVariants.{Plain, Lang}
use Rattle.vkg_cells.specs.declared.cell.Cell.TheVariants as cell
use Rattle.vkg_cells.specs.declared.cell.SqlType.TheVariants as kind
use Rattle.vkg_expr.specs.declared.term_expr.Sort.TheVariants.{OfIri, OfBlank, OfLit}
use Rattle.vkg_expr.specs.declared.term_expr.Piece.{Piece}
use Rattle.vkg_expr.specs.declared.term_expr.Piece.TheVariants.{Chars, Hole}
use Rattle.vkg_expr.specs.declared.term_expr.TermExpr.{TermExpr}
use Rattle.vkg_expr.specs.declared.term_expr.TermExpr.TheVariants.{Fixed, Made, Resolved}
use Rattle.vkg_expr.specs.Expr.{Expr, Col, Const, Same, Concat, Lex, IriOf, IriSafe, exprs}
use Rattle.vkg_expr.specs.TermExprs.{text_const}
use Rattle.vkg_match.specs.Cut.{cut_character, cut_piece, is_separable}
use Rattle.vkg_match.specs.Verdict.{Never, All, segment, segment_at, verdict_of}

unfoldable pub opened : Unit {0}
unfolding chars encode_utf8 is_utf8 percent_decode decode_pairs encode_with cut_character cut_piece segment segment_at
opened = tt

abbrev hole : ℕ → Piece
hole at = Hole at kind.Text

abbrev two : ℕ → ℕ → List ℕ → TermExpr
two m n sign = Made OfIri (Chars (codes "http://e/") ∷ hole m ∷ Chars sign ∷ hole n ∷ [])

abbrev dashed : ℕ → ℕ → Expr
dashed m n = Concat (exprs (IriSafe (Lex (Col m)) ∷ text_const (codes "-") ∷ IriSafe (Lex (Col n)) ∷ []))

-- `-` may stand in a value, so the composed texts are compared
with_dash : verdict_of (two 0 1 (codes "-")) (two 2 3 (codes "-")) ≡ All (Same (dashed 0 1) (dashed 2 3) ∷ [])
unfolding opened
with_dash = refl

-- `/` may not, so the values are
with_slash : verdict_of (two 0 1 (codes "/")) (two 2 3 (codes "/")) ≡ All (Same (Col 0) (Col 2) ∷ Same (Col 1) (Col 3) ∷ [])
unfolding opened
with_slash = refl

too_many_breaks : verdict_of (two 0 1 (codes "/")) (Fixed (Iri (codes "http://e/x/y/z"))) ≡ Never
unfolding opened
too_many_breaks = refl

break_in_a_value : verdict_of (two 0 1 (codes "-")) (Fixed (Iri (codes "http://e/x/y/z"))) ≡ Never
unfolding opened
break_in_a_value = refl

-- an INTEGER's form has no leading zero
abbrev employee : TermExpr
employee = Made OfIri (Chars (codes "http://e/emp/id=") ∷ Hole 0 kind.Int ∷ [])

seven : verdict_of employee (Fixed (Iri (codes "http://e/emp/id=7"))) ≡ All (Same (Col 0) (Const (cell.Int (codes "7")) kind.Int) ∷ [])
unfolding opened
seven = refl

zero_seven : verdict_of employee (Fixed (Iri (codes "http://e/emp/id=07"))) ≡ Never
unfolding opened
zero_seven = refl

-- the text of an escape, and an escape that no text has
escaped : verdict_of (Made OfIri (Chars (codes "a:") ∷ hole 0 ∷ [])) (Fixed (Iri (codes "a:x%20y"))) ≡ All (Same (Col 0) (Const (cell.Text (codes "x y")) kind.Text) ∷ [])
unfolding opened
escaped = refl

needless_escape : verdict_of (Made OfIri (Chars (codes "a:") ∷ hole 0 ∷ [])) (Fixed (Iri (codes "a:%78"))) ≡ Never
unfolding opened
needless_escape = refl

-- a blank node's label is the hex of its text
labelled : verdict_of (Made OfBlank (hole 0 ∷ [])) (Fixed (Blank (codes "b7131"))) ≡ All (Same (Col 0) (Const (cell.Text (codes "q1")) kind.Text) ∷ [])
unfolding opened
labelled = refl

no_label : verdict_of (Made OfBlank (hole 0 ∷ [])) (Fixed (Blank (codes "x1"))) ≡ Never
unfolding opened
no_label = refl

-- two families are compared by their forms, one by its cells
two_families : verdict_of (Made (OfLit Plain) (hole 0 ∷ [])) (Made (OfLit Plain) (Hole 1 kind.Int ∷ [])) ≡ All (Same (Lex (Col 0)) (Lex (Col 1)) ∷ [])
unfolding opened
two_families = refl

one_family : verdict_of (Made (OfLit Plain) (Hole 0 kind.Dec ∷ [])) (Made (OfLit Plain) (Hole 1 kind.Int ∷ [])) ≡ All (Same (Col 0) (Col 1) ∷ [])
unfolding opened
one_family = refl

two_tags : verdict_of (Made (OfLit (Lang (codes "en"))) (hole 0 ∷ [])) (Made (OfLit (Lang (codes "de"))) (hole 1 ∷ [])) ≡ Never
unfolding opened
two_tags = refl

over_a_base : verdict_of (Resolved (codes "http://e/") 0 kind.Text) (Fixed (Iri (codes "http://e/x"))) ≡ All (Same (IriOf (codes "http://e/") (Lex (Col 0))) (text_const (codes "http://e/x")) ∷ [])
unfolding opened
over_a_base = refl

slash_parts : is_separable (Chars (codes "http://e/") ∷ hole 0 ∷ Chars (codes "/") ∷ hole 1 ∷ []) ≡ true
unfolding opened
slash_parts = refl

dash_does_not : is_separable (Chars (codes "http://e/") ∷ hole 0 ∷ Chars (codes "-") ∷ hole 1 ∷ []) ≡ false
unfolding opened
dash_does_not = refl
