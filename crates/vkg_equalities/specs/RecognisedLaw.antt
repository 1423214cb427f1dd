-- A recognised expression is the one that is made of what it is recognised as, and the kind of each hole is its column's.
use Rattle.std.proofs.Common.{◌≡◌, ◌∙◌, inl, inr, ℕ, List, [], ◌∷◌, map, refl, sym, ap, subst}
use Rattle.std.specs.Prelude.{⊤, Some, option_map, option_and_then, slice_get}
use Rattle.std.specs.List.{AllByRecursion}
use Rattle.std.proofs.lemmas.Option.{same_Some, option_and_then_some}
use Rattle.vkg_lists.proofs.Onto.{first_given, map_given}
use Rattle.vkg_terms.specs.declared.term.Term.{Term}
use Rattle.vkg_cells.specs.declared.cell.Cell.{Cell}
use Rattle.vkg_cells.specs.declared.cell.Cell.TheVariants as cell
use Rattle.vkg_cells.specs.declared.cell.SqlType.{SqlType}
use Rattle.vkg_cells.specs.declared.cell.SqlType.TheVariants as kind
use Rattle.vkg_expr.specs.declared.term_expr.Sort.{Sort}
use Rattle.vkg_expr.specs.declared.term_expr.Sort.TheVariants.{OfIri, OfBlank, OfLit}
use Rattle.vkg_expr.specs.declared.term_expr.Piece.{Piece}
use Rattle.vkg_expr.specs.declared.term_expr.Piece.TheVariants.{Chars, Hole}
use Rattle.vkg_expr.specs.declared.term_expr.TermExpr.{TermExpr}
use Rattle.vkg_expr.specs.declared.term_expr.TermExpr.TheVariants.{Fixed, Made, Resolved}
use Rattle.vkg_expr.specs.Expr.{Expr, Exprs, Col, Const, MakeIri, IriOf, MakeBlank, MakeLit, Lex, IriSafe, Concat, Nil, More, exprs}
use Rattle.vkg_expr.specs.TermExprs.{made, piece_expr, term_const, term_expr, text_const}
use Rattle.vkg_plan.specs.Kinds.{Kinds}
use Rattle.vkg_rules.specs.EverywhereLaw.{or_given}
use Rattle.vkg_equalities.specs.Recognised.{as_column, as_form, as_hole, as_safe, as_text, composed, hole, lone, piece, pieces, recognised, resolved, several, term_in, text_in}

-- a hole's kind is that of its column
abbrev pub IsHoleOf : Kinds → Piece → Type 0
IsHoleOf ks (Chars text) = ⊤
IsHoleOf ks (Hole at k) = slice_get ks at ≡ Some k

abbrev pub HasHoles : Kinds → TermExpr → Type 0
HasHoles ks (Fixed t) = ⊤
HasHoles ks (Made sort ps) = AllByRecursion (IsHoleOf ks) ps
HasHoles ks (Resolved base at k) = slice_get ks at ≡ Some k

-- the term makes the expression again
abbrev pub IsReadAs : Kinds → Expr → TermExpr → Type 0
IsReadAs ks e f = (term_expr f ≡ e) × HasHoles ks f

-- ---- columns, their forms, and constants

column-is : (e : Expr) (at : ℕ) → as_column e ≡ Some at → Col at ≡ e
column-is (Col i) at h = ap Col (sym (same_Some i at h))
column-is _ at h = cc

form-is : (e : Expr) (at : ℕ) → as_form e ≡ Some at → Lex (Col at) ≡ e
form-is (Lex e) at h = ap Lex (column-is e at h)
form-is _ at h = cc

safe-is : (e : Expr) (at : ℕ) → as_safe e ≡ Some at → IriSafe (Lex (Col at)) ≡ e
safe-is (IriSafe e) at h = ap IriSafe (form-is e at h)
safe-is _ at h = cc

text_in-is : (k : SqlType) (c : Cell) (s : List ℕ) → text_in k c ≡ Some s → text_const s ≡ Const c k
text_in-is kind.Text (cell.Text x) s h = ap text_const (sym (same_Some x s h))
text_in-is _ _ s h = cc

term_in-is : (k : SqlType) (c : Cell) (t : Term) → term_in k c ≡ Some t → term_const t ≡ Const c k
term_in-is kind.Term (cell.Term x) t h = ap term_const (sym (same_Some x t h))
term_in-is _ _ t h = cc

text-is : (e : Expr) (s : List ℕ) → as_text e ≡ Some s → text_const s ≡ e
text-is (Const c k) s h = text_in-is k c s h
text-is _ s h = cc

-- ---- pieces

hole-is : (sort : Sort) (e : Expr) (at : ℕ) (k : SqlType) → as_hole sort e ≡ Some at → piece_expr sort (Hole at k) ≡ e
hole-is OfIri e at k h = safe-is e at h
hole-is OfBlank e at k h = form-is e at h
hole-is (OfLit a) e at k h = form-is e at h

chars-is : (sort : Sort) (s : List ℕ) → piece_expr sort (Chars s) ≡ text_const s
chars-is OfIri s = refl
chars-is OfBlank s = refl
chars-is (OfLit a) s = refl

abbrev IsPiece : Kinds → Sort → Expr → Piece → Type 0
IsPiece ks sort e p = (piece_expr sort p ≡ e) × IsHoleOf ks p

piece-is : (ks : Kinds) (sort : Sort) (e : Expr) (p : Piece) → piece ks sort e ≡ Some p → IsPiece ks sort e p
piece-is ks sort e p h = elim (or_given (option_map Chars (as_text e)) (option_and_then (hole ks) (as_hole sort e)) p h) [
  | inl i ↦
      let m = map_given Chars (as_text e) p i in
      subst (IsPiece ks sort e) m.2 (chars-is sort m.0 ∙ text-is e m.0 m.1, tt)
  | inr i ↦ option_and_then_some (hole ks) (as_hole sort e) p i (λ at a b.
      let m = map_given (Hole at) (slice_get ks at) p b in
      subst (IsPiece ks sort e) m.2 (hole-is sort e at m.0 a, m.1))
]

abbrev ArePieces : Kinds → Sort → Exprs → List Piece → Type 0
ArePieces ks sort es ps = (exprs (map (piece_expr sort) ps) ≡ es) × AllByRecursion (IsHoleOf ks) ps

pieces-are : (ks : Kinds) (sort : Sort) (es : Exprs) (ps : List Piece) → pieces ks sort es ≡ Some ps → ArePieces ks sort es ps
pieces-are ks sort Nil ps h = subst (ArePieces ks sort Nil) (same_Some [] ps h) (refl, tt)
pieces-are ks sort (More e es) ps h =
    let m = first_given (piece ks sort e) (pieces ks sort es) ps h in
    let p = piece-is ks sort e m.0 m.1 in
    let q = pieces-are ks sort es m.2.0 m.2.1 in
    subst (ArePieces ks sort (More e es)) m.2.2 ((λ i. More (p.0 i) (q.0 i)), (p.1, q.1))

-- ---- composed texts

several-is : (ks : Kinds) (sort : Sort) (es : Exprs) (ps : List Piece) (f : TermExpr) → ArePieces ks sort es ps → several sort ps ≡ Some f → IsReadAs ks (made sort (Concat es)) f
several-is ks sort es [] f a h = cc
several-is ks sort es (p ∷ []) f a h = cc
several-is ks sort es (p ∷ q ∷ ps) f a h = subst (IsReadAs ks (made sort (Concat es))) (same_Some (Made sort (p ∷ q ∷ ps)) f h) (ap (λ l. made sort (Concat l)) a.0, a.1)

concat-is : (ks : Kinds) (sort : Sort) (es : Exprs) (f : TermExpr) → option_and_then (several sort) (pieces ks sort es) ≡ Some f → IsReadAs ks (made sort (Concat es)) f
concat-is ks sort es f h = option_and_then_some (several sort) (pieces ks sort es) f h (λ ps a b. several-is ks sort es ps f (pieces-are ks sort es ps a) b)

lone-is : (ks : Kinds) (sort : Sort) (e : Expr) (f : TermExpr) → lone ks sort e ≡ Some f → IsReadAs ks (made sort e) f
lone-is ks sort e f h =
    let m = map_given (λ p. Made sort (p ∷ [])) (piece ks sort e) f h in
    let p = piece-is ks sort e m.0 m.1 in
    subst (IsReadAs ks (made sort e)) m.2 (ap (made sort) p.0, (p.1, tt))

composed-is : (ks : Kinds) (sort : Sort) (e : Expr) (f : TermExpr) → composed ks sort e ≡ Some f → IsReadAs ks (made sort e) f
composed-is ks sort (Concat es) f h = concat-is ks sort es f h
composed-is ks sort e f h = lone-is ks sort e f h

resolved-is : (ks : Kinds) (e : Expr) (f : TermExpr) → resolved ks e ≡ Some f → IsReadAs ks (MakeIri e) f
resolved-is ks (IriOf base e) f h = option_and_then_some (λ at. option_map (Resolved base at) (slice_get ks at)) (as_form e) f h (λ at i j.
    let m = map_given (Resolved base at) (slice_get ks at) f j in
    subst (IsReadAs ks (MakeIri (IriOf base e))) m.2 (ap (λ x. MakeIri (IriOf base x)) (form-is e at i), m.1))
resolved-is ks _ f h = cc

-- ---- the law

pub recognised-is : (ks : Kinds) (e : Expr) (f : TermExpr) → recognised ks e ≡ Some f → IsReadAs ks e f
recognised-is ks (Const c k) f h = let m = map_given Fixed (term_in k c) f h in subst (IsReadAs ks (Const c k)) m.2 (term_in-is k c m.0 m.1, tt)
recognised-is ks (MakeIri e) f h = elim (or_given (resolved ks e) (composed ks OfIri e) f h) [
  | inl i ↦ resolved-is ks e f i
  | inr i ↦ composed-is ks OfIri e f i
]
recognised-is ks (MakeBlank e) f h = composed-is ks OfBlank e f h
recognised-is ks (MakeLit e annotation) f h = composed-is ks (OfLit annotation) e f h
recognised-is ks _ f h = cc
