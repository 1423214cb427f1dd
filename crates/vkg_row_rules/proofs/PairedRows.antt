-- Two rows behind each other: what is made of the first, and of the second.
use Rattle.std.proofs.Common.{◌≡◌, ◌∙◌, ℕ, ◌+◌, ◌<◌, ◌&&◌, List, [], ◌∷◌, ◌++◌, map, length, refl, ap, arith}
use Rattle.std.specs.Prelude.{Some, option_map, flat_map}
use Rattle.std.specs.List.{list_all, AllByRecursion}
use Rattle.vkg_lists.specs.Lists.{AllBelow}
use Rattle.vkg_lists.specs.Options.{joined}
use Rattle.vkg_expr.proofs.ReadBack.{truth_back}
use Rattle.vkg_terms.specs.declared.term.Term.TheVariants as term
use Rattle.vkg_terms.specs.Iri.{made_absolute}
use Rattle.vkg_terms.specs.Safe.{safe}
use Rattle.vkg_terms.specs.Label.{blank_label}
use Rattle.vkg_cells.specs.Form.{lexical_form}
use Rattle.vkg_cells.specs.Order.{same}
use Rattle.vkg_schema.specs.Rows.{Row, cell_at, equal_at, agree, is_known_true}
use Rattle.vkg_schema.proofs.RowCells.{cell_at-left, cell_at-right}
use Rattle.vkg_maps.specs.declared.term_map.TermMap.{TermMap}
use Rattle.vkg_maps.specs.declared.term_map.TermMap.TheVariants as from
use Rattle.vkg_maps.specs.declared.term_map.Piece.{Piece as TemplatePiece}
use Rattle.vkg_maps.specs.declared.term_map.Piece.TheVariants as piece
use Rattle.vkg_maps.specs.declared.term_map.TermType.{TermType}
use Rattle.vkg_maps.specs.Terms.{term_of as term_made, where_value, template_value, put, against}
use Rattle.vkg_expr.specs.declared.term_expr.Piece.{Piece}
use Rattle.vkg_expr.specs.declared.term_expr.Piece.TheVariants.{Chars, Hole}
use Rattle.vkg_expr.specs.declared.term_expr.Sort.{Sort}
use Rattle.vkg_expr.specs.declared.term_expr.Sort.TheVariants.{OfIri, OfBlank, OfLit}
use Rattle.vkg_expr.specs.declared.term_expr.TermExpr.{TermExpr}
use Rattle.vkg_expr.specs.declared.term_expr.TermExpr.TheVariants.{Fixed, Made, Resolved}
use Rattle.vkg_expr.specs.Expr.{Expr, Col, Same, exprs}
use Rattle.vkg_expr.specs.TermExprs.{made, moved_piece, moved_term, piece_expr, pieces_expr, term_expr}
use Rattle.vkg_expr.specs.Value.{value_of, values_of, holds}
use Rattle.vkg_expr.specs.Value as value
use Rattle.vkg_maps.specs.Within.{piece_columns, term_columns}

-- ---- of the first

module _ (r s : Row) where
  pieces_before : (t : TermType) (ps : List TemplatePiece) → AllBelow (length r) (flat_map piece_columns ps) → template_value t (r ++ s) ps ≡ template_value t r ps
  pieces_before t [] h = refl
  pieces_before t (piece.Fixed text ∷ ps) h = ap (joined (Some text)) (pieces_before t ps h)
  pieces_before t (piece.Column c ∷ ps) h =
      ap (λ d. joined (option_map (put t) (lexical_form d)) (template_value t (r ++ s) ps)) (cell_at-left r s c h.0)
      ∙ ap (joined (option_map (put t) (lexical_form (cell_at r c)))) (pieces_before t ps h.1)

  pub term_before : (base : List ℕ) (t : TermMap) → AllBelow (length r) (term_columns t) → term_made base t (r ++ s) ≡ term_made base t r
  term_before base (from.Constant term) h = refl
  term_before base (from.Column c t) h = ap (λ d. where_value t (option_map (against base t) (lexical_form d))) (cell_at-left r s c h.0)
  term_before base (from.Template ps t) h = ap (where_value t) (pieces_before t ps h)

-- ---- of the second

module _ (r s : Row) (n : ℕ) (width : n ≡ length r) where
  moved_cell : (at : ℕ) → cell_at (r ++ s) (at + n) ≡ cell_at s at
  moved_cell at = cell_at-right r s (at + n) at (omega (arith, width))

  piece_behind : (k : Sort) (p : Piece) → value_of (piece_expr k (moved_piece n p)) (r ++ s) ≡ value_of (piece_expr k p) s
  piece_behind OfIri (Chars text) = refl
  piece_behind OfBlank (Chars text) = refl
  piece_behind (OfLit a) (Chars text) = refl
  piece_behind OfIri (Hole at kind) = ap (λ d. value.text_cell (option_map safe (value.text_of (value.text_cell (lexical_form d))))) (moved_cell at)
  piece_behind OfBlank (Hole at kind) = ap (λ d. value.text_cell (lexical_form d)) (moved_cell at)
  piece_behind (OfLit a) (Hole at kind) = ap (λ d. value.text_cell (lexical_form d)) (moved_cell at)

  pieces_behind : (k : Sort) (ps : List Piece) → values_of (exprs (map (piece_expr k) (map (moved_piece n) ps))) (r ++ s) ≡ values_of (exprs (map (piece_expr k) ps)) s
  pieces_behind k [] = refl
  pieces_behind k (p ∷ ps) = λ i. piece_behind k p i ∷ pieces_behind k ps i

  text_behind : (k : Sort) (ps : List Piece) → value_of (pieces_expr k (map (moved_piece n) ps)) (r ++ s) ≡ value_of (pieces_expr k ps) s
  text_behind k [] = refl
  text_behind k (p ∷ []) = piece_behind k p
  text_behind k (p ∷ q ∷ ps) = ap (λ cs. value.text_cell (value.concat_of cs)) (pieces_behind k (p ∷ q ∷ ps))

  made_behind : (k : Sort) (e f : Expr) → value_of e (r ++ s) ≡ value_of f s → value_of (made k e) (r ++ s) ≡ value_of (made k f) s
  made_behind OfIri e f h = ap (λ d. value.term_cell (option_map term.Iri (value.text_of d))) h
  made_behind OfBlank e f h = ap (λ d. value.term_cell (option_map (λ t. term.Blank (blank_label t)) (value.text_of d))) h
  made_behind (OfLit a) e f h = ap (λ d. value.term_cell (option_map (λ t. term.Lit t a) (value.text_of d))) h

  pub term_behind : (e : TermExpr) → value_of (term_expr (moved_term n e)) (r ++ s) ≡ value_of (term_expr e) s
  term_behind (Fixed t) = refl
  term_behind (Made k ps) = made_behind k (pieces_expr k (map (moved_piece n) ps)) (pieces_expr k ps) (text_behind k ps)
  term_behind (Resolved base at kind) =
      ap (λ d. value.term_cell (option_map term.Iri (value.text_of (value.text_cell (option_map (made_absolute base) (value.text_of (value.text_cell (lexical_form d)))))))) (moved_cell at)

  -- ---- join conditions

  condition_holds : (c : ℕ × ℕ) → c.0 < length r → holds (Same (Col c.0) (Col (c.1 + n))) (r ++ s) ≡ equal_at r s c
  unfolding equal_at
  condition_holds c l =
      ap is_known_true (truth_back (same (cell_at (r ++ s) c.0) (cell_at (r ++ s) (c.1 + n))))
      ∙ ap (λ d. is_known_true (same d (cell_at (r ++ s) (c.1 + n)))) (cell_at-left r s c.0 l)
      ∙ ap (λ d. is_known_true (same (cell_at r c.0) d)) (moved_cell c.1)

  pub conditions_hold : (cs : List (ℕ × ℕ)) → AllByRecursion (λ (c : ℕ × ℕ). c.0 < length r) cs →
      list_all (λ c. holds c (r ++ s)) (map (λ (c : ℕ × ℕ). Same (Col c.0) (Col (c.1 + n))) cs) ≡ agree cs r s
  conditions_hold [] h = refl
  conditions_hold (c ∷ cs) h = λ i. condition_holds c h.0 i && conditions_hold cs h.1 i
