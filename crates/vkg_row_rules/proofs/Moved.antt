-- Expressions that are moved by nothing.
use Rattle.std.proofs.Common.{◌≡◌, ◌∙◌, List, [], ◌∷◌, map, length, refl, ap, add-zero}
use Rattle.vkg_expr.specs.declared.term_expr.Piece.{Piece}
use Rattle.vkg_expr.specs.declared.term_expr.Piece.TheVariants.{Chars, Hole}
use Rattle.vkg_expr.specs.declared.term_expr.TermExpr.{TermExpr}
use Rattle.vkg_expr.specs.declared.term_expr.TermExpr.TheVariants.{Fixed, Made, Resolved}
use Rattle.vkg_expr.specs.TermExprs.{moved_piece, moved_term}

same_piece : (p : Piece) → moved_piece 0 p ≡ p
same_piece (Chars s) = refl
same_piece (Hole at k) = ap (λ n. Hole n k) (add-zero at)

same_pieces : (ps : List Piece) → map (moved_piece 0) ps ≡ ps
same_pieces [] = refl
same_pieces (p ∷ ps) = ap (λ q. q ∷ map (moved_piece 0) ps) (same_piece p) ∙ ap (λ qs. p ∷ qs) (same_pieces ps)

moved_by_none : (e : TermExpr) → moved_term 0 e ≡ e
moved_by_none (Fixed t) = refl
moved_by_none (Made sort ps) = ap (Made sort) (same_pieces ps)
moved_by_none (Resolved base at k) = ap (λ n. Resolved base n k) (add-zero at)

pub behind_none : {A : Type 0} (before : List A) (e : TermExpr) → before ≡ [] → moved_term (length before) e ≡ e
behind_none before e none = rw none (moved_by_none e)
