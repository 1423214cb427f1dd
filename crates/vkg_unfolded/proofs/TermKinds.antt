-- Kinds of expressions: terms, truths and texts, and lists of them.
use Rattle.std.proofs.Common.{◌≡◌, ◌∙◌, ℕ, zero, suc, ◌<◌, ◌+◌, true, false, not, ◌&&◌, List, [], ◌∷◌, ◌++◌, map, length, refl, ap, arith}
use Rattle.std.specs.Prelude.{Some, replicate, slice_get, option_map}
use Rattle.std.specs.Bool.{then_some}
use Rattle.std.specs.List.{AllByRecursion}
use Rattle.vkg_lists.proofs.Each.{recursion_map_weaken, recursion_weaken}
use Rattle.vkg_lists.specs.Options.{with_first}
use Rattle.vkg_lists.proofs.Heads.{list_all-replicate}
use Rattle.vkg_cells.specs.declared.cell.SqlType.{SqlType}
use Rattle.vkg_cells.specs.declared.cell.SqlType.TheVariants as kind
use Rattle.vkg_expr.specs.declared.term_expr.Piece.{Piece}
use Rattle.vkg_expr.specs.declared.term_expr.Piece.TheVariants.{Chars, Hole}
use Rattle.vkg_expr.specs.declared.term_expr.Sort.{Sort}
use Rattle.vkg_expr.specs.declared.term_expr.Sort.TheVariants.{OfIri, OfBlank, OfLit}
use Rattle.vkg_expr.specs.declared.term_expr.TermExpr.{TermExpr}
use Rattle.vkg_expr.specs.declared.term_expr.TermExpr.TheVariants.{Fixed, Made, Resolved}
use Rattle.vkg_expr.specs.Expr.{Expr, Col, Lex, IsNull, Not, Same, Coalesce, exprs}
use Rattle.vkg_expr.specs.Logic.{and_of, or_of}
use Rattle.vkg_expr.specs.TermExprs.{made, piece_expr, pieces_expr, term_expr}
use Rattle.vkg_expr.specs.Typing.{are_all, equality_kind, is_column, is_one, kind_of, kinds_of, lexical_kind, no_column, same_kind, common}
use Rattle.vkg_expr.proofs.KindLists.{itself}
use Rattle.vkg_plan.specs.Kinds.{Kinds}
use Rattle.vkg_unfolded.specs.FittingRules.{FitsPiece, FitsTerm}

abbrev pub IsTerm : Kinds → Expr → Type 0
IsTerm ks e = kind_of e ks ≡ Some kind.Term

abbrev pub IsTruth : Kinds → Expr → Type 0
IsTruth ks e = kind_of e ks ≡ Some kind.Bool

abbrev pub IsText : Kinds → Expr → Type 0
IsText ks e = kind_of e ks ≡ Some kind.Text

-- ---- lists

pub kinds_each : (k : SqlType) (ks : Kinds) (es : List Expr) → AllByRecursion (λ e. kind_of e ks ≡ Some k) es → kinds_of (exprs es) ks ≡ Some (replicate (length es) k)
kinds_each k ks [] h = refl
kinds_each k ks (e ∷ es) h = λ i. with_first (h.0 i) (kinds_each k ks es h.1 i)

are_each : (k : SqlType) (ks : Kinds) (es : List Expr) → AllByRecursion (λ e. kind_of e ks ≡ Some k) es → are_all k (kinds_of (exprs es) ks) ≡ true
are_each k ks es h = ap (are_all k) (kinds_each k ks es h) ∙ list_all-replicate (same_kind k) (length es) k (itself k)

pub and_truth : (ks : Kinds) (es : List Expr) → AllByRecursion (IsTruth ks) es → IsTruth ks (and_of es)
and_truth ks [] h = refl
and_truth ks (e ∷ []) h = h.0
and_truth ks (e ∷ f ∷ es) h = ap (λ b. then_some b kind.Bool) (are_each kind.Bool ks (e ∷ f ∷ es) h)

pub or_truth : (ks : Kinds) (es : List Expr) → AllByRecursion (IsTruth ks) es → IsTruth ks (or_of es)
or_truth ks [] h = refl
or_truth ks (e ∷ []) h = h.0
or_truth ks (e ∷ f ∷ es) h = ap (λ b. then_some b kind.Bool) (are_each kind.Bool ks (e ∷ f ∷ es) h)

-- ---- the single forms

pub same_truth : (ks : Kinds) (a b : Expr) → IsTerm ks a → IsTerm ks b → IsTruth ks (Same a b)
same_truth ks a b p q = λ i. equality_kind (p i) (q i)

pub null_truth : (ks : Kinds) (a : Expr) → IsTerm ks a → IsTruth ks (IsNull a)
null_truth ks a p = λ i. option_map (λ (k : SqlType). kind.Bool) (p i)

pub not_truth : (ks : Kinds) (a : Expr) → IsTruth ks a → IsTruth ks (Not a)
not_truth ks a p = λ i. then_some (is_one kind.Bool (p i)) kind.Bool

pub known_truth : (ks : Kinds) (a : Expr) → IsTerm ks a → IsTruth ks (Not (IsNull a))
known_truth ks a p = not_truth ks (IsNull a) (null_truth ks a p)

pub first_term : (ks : Kinds) (a b : Expr) → IsTerm ks a → IsTerm ks b → IsTerm ks (Coalesce (exprs (a ∷ b ∷ [])))
first_term ks a b p q = λ i. common (with_first (p i) (with_first (q i) (Some [])))

-- ---- terms of rules

form_text : (ks : Kinds) (at : ℕ) (k : SqlType) → FitsPiece ks (Hole at k) → IsText ks (Lex (Col at))
form_text ks at k h = ap lexical_kind h.0 ∙ ap (λ b. then_some (not b) kind.Text) h.1

piece_text : (ks : Kinds) (sort : Sort) (p : Piece) → FitsPiece ks p → IsText ks (piece_expr sort p)
piece_text ks OfIri (Chars s) h = refl
piece_text ks OfBlank (Chars s) h = refl
piece_text ks (OfLit a) (Chars s) h = refl
piece_text ks OfIri (Hole at k) h = λ i. then_some (is_one kind.Text (form_text ks at k h i)) kind.Text
piece_text ks OfBlank (Hole at k) h = form_text ks at k h
piece_text ks (OfLit a) (Hole at k) h = form_text ks at k h

no_column_piece : (sort : Sort) (p : Piece) → is_column (piece_expr sort p) ≡ false
no_column_piece OfIri (Chars s) = refl
no_column_piece OfBlank (Chars s) = refl
no_column_piece (OfLit a) (Chars s) = refl
no_column_piece OfIri (Hole at k) = refl
no_column_piece OfBlank (Hole at k) = refl
no_column_piece (OfLit a) (Hole at k) = refl

no_column_pieces : (sort : Sort) (ps : List Piece) → no_column (exprs (map (piece_expr sort) ps)) ≡ true
no_column_pieces sort [] = refl
no_column_pieces sort (p ∷ ps) = λ i. not (no_column_piece sort p i) && no_column_pieces sort ps i

pieces_text : (ks : Kinds) (sort : Sort) (ps : List Piece) → AllByRecursion (FitsPiece ks) ps → IsText ks (pieces_expr sort ps)
pieces_text ks sort [] h = refl
pieces_text ks sort (p ∷ []) h = piece_text ks sort p h.0
pieces_text ks sort (p ∷ q ∷ ps) h =
    λ i. then_some (no_column_pieces sort (p ∷ q ∷ ps) i && are_each kind.Text ks (map (piece_expr sort) (p ∷ q ∷ ps)) (recursion_map_weaken (FitsPiece ks) (IsText ks) (piece_expr sort) (piece_text ks sort) (p ∷ q ∷ ps) h) i) kind.Text

made_term : (ks : Kinds) (sort : Sort) (e : Expr) → IsText ks e → IsTerm ks (made sort e)
made_term ks OfIri e p = λ i. then_some (is_one kind.Text (p i)) kind.Term
made_term ks OfBlank e p = λ i. then_some (is_one kind.Text (p i)) kind.Term
made_term ks (OfLit a) e p = λ i. then_some (is_one kind.Text (p i)) kind.Term

pub rule_term : (ks : Kinds) (t : TermExpr) → FitsTerm ks t → IsTerm ks (term_expr t)
rule_term ks (Fixed t) h = refl
rule_term ks (Made sort ps) h = made_term ks sort (pieces_expr sort ps) (pieces_text ks sort ps h)
rule_term ks (Resolved base at k) h = λ i. then_some (is_one kind.Text (then_some (is_one kind.Text (form_text ks at k h i)) kind.Text)) kind.Term

-- ---- more columns behind

pub get_wider : (ks ls : Kinds) (at : ℕ) (k : SqlType) → slice_get ks at ≡ Some k → slice_get (ks ++ ls) at ≡ Some k
get_wider [] ls at k e = cc
get_wider (l ∷ ks) ls zero k e = e
get_wider (l ∷ ks) ls (suc at) k e = get_wider ks ls at k e

wider_piece : (ks ls : Kinds) (p : Piece) → FitsPiece ks p → FitsPiece (ks ++ ls) p
wider_piece ks ls (Chars s) h = tt
wider_piece ks ls (Hole at k) h = (get_wider ks ls at k h.0, h.1)

pub wider_term : (ks ls : Kinds) (t : TermExpr) → FitsTerm ks t → FitsTerm (ks ++ ls) t
wider_term ks ls (Fixed t) h = tt
wider_term ks ls (Made sort ps) h = recursion_weaken (FitsPiece ks) (FitsPiece (ks ++ ls)) ps (wider_piece ks ls) h
wider_term ks ls (Resolved base at k) h = wider_piece ks ls (Hole at k) h

-- ---- columns of terms

pub term_at : (n at : ℕ) → at < n → IsTerm (replicate n kind.Term) (Col at)
term_at zero at h = absurd (omega (arith, h))
term_at (suc n) zero h = refl
term_at (suc n) (suc at) h = term_at n at (omega (arith, h))
