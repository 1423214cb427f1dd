-- What term expressions make on a row: the texts of their pieces, and the term of that text.
use Rattle.std.proofs.Common.{◌≡◌, ℕ, refl, sym, ap, ◌∙◌, List, [], ◌∷◌, map}
use Rattle.std.specs.Prelude.{Option, Some, option_map}
use Rattle.vkg_lists.specs.Options.{joined}
use Rattle.vkg_lists.proofs.Onto.{joined_nil}
use Rattle.vkg_terms.specs.declared.term.Term.{Term}
use Rattle.vkg_terms.specs.declared.term.Term.TheVariants.{Iri, Blank, Lit}
use Rattle.vkg_terms.specs.Iri.{made_absolute}
use Rattle.vkg_terms.specs.Label.{blank_label}
use Rattle.vkg_terms.specs.Safe.{safe}
use Rattle.vkg_terms.specs.Same.{term_name}
use Rattle.vkg_cells.specs.Form.{lexical_form}
use Rattle.vkg_schema.specs.Rows.{Row, cell_at}
use Rattle.vkg_expr.specs.declared.term_expr.Sort.{Sort}
use Rattle.vkg_expr.specs.declared.term_expr.Sort.TheVariants.{OfIri, OfBlank, OfLit}
use Rattle.vkg_expr.specs.declared.term_expr.Piece.{Piece}
use Rattle.vkg_expr.specs.declared.term_expr.Piece.TheVariants.{Chars, Hole}
use Rattle.vkg_expr.specs.declared.term_expr.TermExpr.{TermExpr}
use Rattle.vkg_expr.specs.declared.term_expr.TermExpr.TheVariants.{Fixed, Made, Resolved}
use Rattle.vkg_expr.specs.Expr.{exprs}
use Rattle.vkg_expr.specs.TermExprs.{piece_expr, pieces_expr, term_expr}
use Rattle.vkg_expr.specs.Value.{concat_of, term_cell, term_of, text_cell, text_of, value_of, values_of}
use Rattle.vkg_expr.proofs.ReadBack.{term_back, text_back}

abbrev pub Text : Type 0
Text = Option (List ℕ)

-- the text of a piece, which a NULL has none of
abbrev pub piece_text : Sort → Row → Piece → Text
piece_text OfIri row (Chars s) = Some s
piece_text OfIri row (Hole at k) = option_map safe (lexical_form (cell_at row at))
piece_text OfBlank row (Chars s) = Some s
piece_text OfBlank row (Hole at k) = lexical_form (cell_at row at)
piece_text (OfLit a) row (Chars s) = Some s
piece_text (OfLit a) row (Hole at k) = lexical_form (cell_at row at)

abbrev pub pieces_text : Sort → Row → List Piece → Text
pieces_text sort row [] = Some []
pieces_text sort row (p ∷ ps) = joined (piece_text sort row p) (pieces_text sort row ps)

piece_value : (sort : Sort) (row : Row) (p : Piece) → value_of (piece_expr sort p) row ≡ text_cell (piece_text sort row p)
piece_value OfIri row (Chars s) = refl
piece_value OfIri row (Hole at k) = ap (λ o. text_cell (option_map safe o)) (text_back (lexical_form (cell_at row at)))
piece_value OfBlank row (Chars s) = refl
piece_value OfBlank row (Hole at k) = refl
piece_value (OfLit a) row (Chars s) = refl
piece_value (OfLit a) row (Hole at k) = refl

concat_value : (sort : Sort) (row : Row) (ps : List Piece) → concat_of (values_of (exprs (map (piece_expr sort) ps)) row) ≡ pieces_text sort row ps
concat_value sort row [] = refl
concat_value sort row (p ∷ ps) = λ i. joined ((ap text_of (piece_value sort row p) ∙ text_back (piece_text sort row p)) i) (concat_value sort row ps i)

pub pieces_value : (sort : Sort) (row : Row) (ps : List Piece) → value_of (pieces_expr sort ps) row ≡ text_cell (pieces_text sort row ps)
pieces_value sort row [] = refl
pieces_value sort row (p ∷ []) = piece_value sort row p ∙ ap text_cell (sym (joined_nil (piece_text sort row p)))
pieces_value sort row (p ∷ q ∷ ps) = ap text_cell (concat_value sort row (p ∷ q ∷ ps))

-- the text that the term of an expression is made of
abbrev pub text_at : Row → TermExpr → Text
text_at row (Fixed t) = Some (term_name t)
text_at row (Made sort ps) = pieces_text sort row ps
text_at row (Resolved base at k) = option_map (made_absolute base) (lexical_form (cell_at row at))

pub resolved_value : (base : List ℕ) (o : Text) → text_cell (option_map (made_absolute base) (text_of (text_cell o))) ≡ text_cell (option_map (made_absolute base) o)
resolved_value base o = ap (λ p. text_cell (option_map (made_absolute base) p)) (text_back o)

-- the term of a sort that a text makes
abbrev pub term_made : Sort → List ℕ → Term
term_made OfIri s = Iri s
term_made OfBlank s = Blank (blank_label s)
term_made (OfLit a) s = Lit s a

abbrev pub made_term : Row → TermExpr → Option Term
made_term row (Fixed t) = Some t
made_term row (Made sort ps) = option_map (term_made sort) (pieces_text sort row ps)
made_term row (Resolved base at k) = option_map Iri (text_at row (Resolved base at k))

made_value : (sort : Sort) (row : Row) (ps : List Piece) → value_of (term_expr (Made sort ps)) row ≡ term_cell (option_map (term_made sort) (pieces_text sort row ps))
made_value OfIri row ps = ap (λ o. term_cell (option_map Iri o)) (ap text_of (pieces_value OfIri row ps) ∙ text_back (pieces_text OfIri row ps))
made_value OfBlank row ps = ap (λ o. term_cell (option_map (λ s. Blank (blank_label s)) o)) (ap text_of (pieces_value OfBlank row ps) ∙ text_back (pieces_text OfBlank row ps))
made_value (OfLit a) row ps = ap (λ o. term_cell (option_map (λ s. Lit s a) o)) (ap text_of (pieces_value (OfLit a) row ps) ∙ text_back (pieces_text (OfLit a) row ps))

pub term_value : (row : Row) (e : TermExpr) → value_of (term_expr e) row ≡ term_cell (made_term row e)
term_value row (Fixed t) = refl
term_value row (Made sort ps) = made_value sort row ps
term_value row (Resolved base at k) = ap (λ o. term_cell (option_map Iri o)) (ap text_of (resolved_value base (lexical_form (cell_at row at))) ∙ text_back (option_map (made_absolute base) (lexical_form (cell_at row at))))

-- the term read from the value
pub term_read : (row : Row) (e : TermExpr) → term_of (value_of (term_expr e) row) ≡ made_term row e
term_read row e = ap term_of (term_value row e) ∙ term_back (made_term row e)

-- the value is a term, or NULL
pub term_expr_is : (e : TermExpr) (row : Row) → value_of (term_expr e) row ≡ term_cell (term_of (value_of (term_expr e) row))
term_expr_is e row = term_value row e ∙ ap term_cell (sym (term_read row e))
