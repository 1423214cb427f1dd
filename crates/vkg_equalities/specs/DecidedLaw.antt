-- A decided equality stays a truth, holds of the same rows, and asks no two terms to be the same any more.
use Rattle.std.proofs.Common.{◌≡◌, ◌∙◌, ◌+◌, ◌<◌, ℕ, Bool, true, List, [], ◌∷◌, refl, sym, ap, subst, arith}
use Rattle.std.specs.Prelude.{Option, Some, ◌&&◌}
use Rattle.std.specs.List.{AllByRecursion, list_all}
use Rattle.std.specs.Str.{is_utf8}
use Rattle.std.proofs.lemmas.Option.{cond_some, option_and_then_some, same_Some}
use Rattle.std.proofs.lemmas.Str.{IsUtf8-from_is_utf8}
use Rattle.vkg_lists.proofs.Bools.{and_parts}
use Rattle.vkg_lists.proofs.Each.{recursion_weaken}
use Rattle.vkg_lists.proofs.Results.{then_given}
use Rattle.vkg_terms.specs.Same.{term_name}
use Rattle.vkg_cells.specs.declared.cell.SqlType.{SqlType}
use Rattle.vkg_cells.specs.declared.cell.SqlType.TheVariants as kind
use Rattle.vkg_schema.specs.Rows.{Row}
use Rattle.vkg_expr.specs.declared.term_expr.Piece.{Piece}
use Rattle.vkg_expr.specs.declared.term_expr.Piece.TheVariants.{Chars, Hole}
use Rattle.vkg_expr.specs.declared.term_expr.Sort.{Sort}
use Rattle.vkg_expr.specs.declared.term_expr.Sort.TheVariants.{OfIri, OfBlank, OfLit}
use Rattle.vkg_expr.specs.declared.term_expr.TermExpr.{TermExpr}
use Rattle.vkg_expr.specs.declared.term_expr.TermExpr.TheVariants.{Fixed, Made, Resolved}
use Rattle.vkg_expr.specs.Expr.{Expr, Col, IriOf, Lex, Same, exprs}
use Rattle.vkg_expr.specs.Logic.{and_of}
use Rattle.vkg_expr.specs.TermExprs.{made, pieces_expr, term_expr}
use Rattle.vkg_expr.specs.Typing.{is_one, kind_of}
use Rattle.vkg_expr.specs.Value.{holds}
use Rattle.vkg_expr.proofs.TypedParts.{equality_given}
use Rattle.vkg_columns.proofs.Conjuncts.{IsTruth, and_of-kind, holds-and_of}
use Rattle.vkg_match.specs.Laws.{FitsHoles, FitsPiece, HoldsTexts, IsTextPiece, is_met}
use Rattle.vkg_match.specs.Verdict.{Verdict, Never, All, verdict_of}
use Rattle.vkg_match.proofs.Exact.{exact}
use Rattle.vkg_plan.specs.Kinds.{Kinds}
use Rattle.vkg_rules.specs.Measure.{equalities, equalities_each, one_if}
use Rattle.vkg_equalities.specs.Decided.{both_compared, compared, decided, if_fine, is_fine, is_fine_piece, verdict_expr}
use Rattle.vkg_equalities.specs.Recognised.{recognised}
use Rattle.vkg_equalities.specs.RecognisedLaw.{HasHoles, IsHoleOf, recognised-is}
use Rattle.vkg_equalities.specs.TableColumnsLaw.{FitsColumns}
use Rattle.vkg_equalities.specs.VerdictKinds.{IsPlain, IsTypedVerdict, sound-term, typed-verdict}

-- what the second condition is to the first, over columns of these kinds, of which cells of tables stand in those that are flagged
pub record IsRight (is_column : ℕ → Bool) (ks : Kinds) (c d : Expr) : Type 0 where
  pub truth : IsTruth ks d
  pub same : (row : Row) → FitsColumns is_column ks row → holds d row ≡ holds c row
  pub fewer : equalities ks d < equalities ks c

-- ---- what the tests of a term say

module _ (t : ℕ → Bool) where
  texts-held : (ps : List Piece) → list_all (is_fine_piece t) ps ≡ true → AllByRecursion IsTextPiece ps
  texts-held [] h = tt
  texts-held (Chars s ∷ ps) h = let b = and_parts (is_utf8 s) (list_all (is_fine_piece t) ps) h in (IsUtf8-from_is_utf8 s b.0, texts-held ps b.1)
  texts-held (Hole at k ∷ ps) h = let b = and_parts (t at) (list_all (is_fine_piece t) ps) h in (tt, texts-held ps b.1)

  pub fine-texts : (e : TermExpr) → is_fine t e ≡ true → HoldsTexts e
  fine-texts (Fixed u) h = IsUtf8-from_is_utf8 (term_name u) h
  fine-texts (Made sort ps) h = texts-held ps h
  fine-texts (Resolved base at k) h = tt

  module _ (ks : Kinds) (row : Row) (w : FitsColumns t ks row) where
    pieces-fit : (ps : List Piece) → list_all (is_fine_piece t) ps ≡ true → AllByRecursion (IsHoleOf ks) ps → AllByRecursion (FitsPiece row) ps
    pieces-fit [] h i = tt
    pieces-fit (Chars s ∷ ps) h i = let b = and_parts (is_utf8 s) (list_all (is_fine_piece t) ps) h in (tt, pieces-fit ps b.1 i.1)
    pieces-fit (Hole at k ∷ ps) h i = let b = and_parts (t at) (list_all (is_fine_piece t) ps) h in (w at k b.0 i.0, pieces-fit ps b.1 i.1)

    pub fine-holes : (e : TermExpr) → is_fine t e ≡ true → HasHoles ks e → FitsHoles row e
    fine-holes (Fixed u) h i = tt
    fine-holes (Made sort ps) h i = pieces-fit ps h i
    fine-holes (Resolved base at k) h i = tt

  -- a compared expression is that of a term over such columns
  pub compared-is : (ks : Kinds) (e : Expr) (f : TermExpr) → compared t ks e ≡ Some f → (term_expr f ≡ e) × HasHoles ks f × (is_fine t f ≡ true)
  compared-is ks e f h = option_and_then_some (if_fine t) (recognised ks e) f h (λ g i j.
      let c = cond_some (is_fine t g) g f j in
      let r = recognised-is ks e g i in
      subst (λ x. (term_expr x ≡ e) × HasHoles ks x × (is_fine t x ≡ true)) c.1 (r.0, r.1, c.0))

-- ---- the verdict as one conjunct

verdict-holds : (v : Verdict) (row : Row) → holds (verdict_expr v) row ≡ is_met v row
verdict-holds Never row = refl
verdict-holds (All es) row = holds-and_of row es

pub alone : (n : ℕ) → n ≡ n + 0
alone n = omega arith

module _ (ks : Kinds) where
  verdict-truth : (v : Verdict) → IsTypedVerdict ks v → IsTruth ks (verdict_expr v)
  verdict-truth Never h = refl
  verdict-truth (All es) h = and_of-kind ks es (recursion_weaken (IsPlain ks) (IsTruth ks) es (λ e i. i.0) h)

  pub count-and_of : (es : List Expr) → equalities ks (and_of es) ≡ equalities_each ks (exprs es)
  count-and_of [] = refl
  count-and_of (e ∷ []) = alone (equalities ks e)
  count-and_of (e ∷ f ∷ es) = refl

  none-all : (es : List Expr) → AllByRecursion (IsPlain ks) es → equalities_each ks (exprs es) ≡ 0
  none-all [] h = refl
  none-all (e ∷ es) h = λ i. h.0.1 i + none-all es h.1 i

  none-left : (v : Verdict) → IsTypedVerdict ks v → equalities ks (verdict_expr v) ≡ 0
  none-left Never h = refl
  none-left (All es) h = count-and_of es ∙ none-all es h

  -- ---- the two sides are terms

  made-term : (sort : Sort) (x : Expr) (l : SqlType) → kind_of (made sort x) ks ≡ Some l → kind_of (made sort x) ks ≡ Some kind.Term
  made-term OfIri x l h = h ∙ ap Some (sym (then_given (is_one kind.Text (kind_of x ks)) kind.Term l h).1)
  made-term OfBlank x l h = h ∙ ap Some (sym (then_given (is_one kind.Text (kind_of x ks)) kind.Term l h).1)
  made-term (OfLit a) x l h = h ∙ ap Some (sym (then_given (is_one kind.Text (kind_of x ks)) kind.Term l h).1)

  term-kind : (e : TermExpr) (l : SqlType) → kind_of (term_expr e) ks ≡ Some l → kind_of (term_expr e) ks ≡ Some kind.Term
  term-kind (Fixed t) l h = refl
  term-kind (Made sort ps) l h = made-term sort (pieces_expr sort ps) l h
  term-kind (Resolved base at k) l h = made-term OfIri (IriOf base (Lex (Col at))) l h

-- ---- a decided equality

both-given : (o p : Option TermExpr) (d : Expr) → both_compared o p ≡ Some d → (e : TermExpr) × (f : TermExpr) × (o ≡ Some e) × (p ≡ Some f) × (verdict_expr (verdict_of e f) ≡ d)
both-given (Some e) (Some f) d h = (e, f, refl, refl, same_Some (verdict_expr (verdict_of e f)) d h)
both-given _ _ d h = cc

less-by-one : (x y z w : ℕ) → x ≡ 0 → y ≡ 1 → x < y + z + w
less-by-one x y z w a b = omega (arith, a, b)

same-right : (t : ℕ → Bool) (ks : Kinds) (a b d : Expr) → IsTruth ks (Same a b) → decided t ks (Same a b) ≡ Some d → IsRight t ks (Same a b) d
same-right t ks a b d typed h =
    let g = both-given (compared t ks a) (compared t ks b) d h in
    let e = g.0 in
    let f = g.1 in
    let x = compared-is t ks a e g.2 in
    let y = compared-is t ks b f g.3 in
    let is : verdict_expr (verdict_of e f) ≡ d = g.4 in
    let q = equality_given (kind_of a ks) (kind_of b ks) kind.Bool typed in
    let k : kind_of (term_expr e) ks ≡ Some q.0.0 = ap (λ z. kind_of z ks) x.0 ∙ q.0.1 in
    let l : kind_of (term_expr f) ks ≡ Some q.1.0 = ap (λ z. kind_of z ks) y.0 ∙ q.1.1 in
    let v : IsTypedVerdict ks (verdict_of e f) = typed-verdict ks e f (sound-term ks e q.0.0 k x.1) (sound-term ks f q.1.0 l y.1) in
    let m : kind_of a ks ≡ Some kind.Term = ap (λ z. kind_of z ks) (sym x.0) ∙ term-kind ks e q.0.0 k in
    let n : kind_of b ks ≡ Some kind.Term = ap (λ z. kind_of z ks) (sym y.0) ∙ term-kind ks f q.1.0 l in
    record {
      truth = subst (IsTruth ks) is (verdict-truth ks (verdict_of e f) v);
      same = λ row w.
          ap (λ z. holds z row) (sym is)
          ∙ verdict-holds (verdict_of e f) row
          ∙ sym (exact e f (fine-texts t e x.2) (fine-texts t f y.2) row (fine-holes t ks row w e x.2 x.1) (fine-holes t ks row w f y.2 y.1))
          ∙ (λ i. holds (Same (x.0 i) (y.0 i)) row);
      fewer = less-by-one (equalities ks d) (one_if (is_one kind.Term (kind_of a ks) && is_one kind.Term (kind_of b ks))) (equalities ks a) (equalities ks b)
          (ap (equalities ks) (sym is) ∙ none-left ks (verdict_of e f) v)
          (λ i. one_if (is_one kind.Term (m i) && is_one kind.Term (n i)));
    }

pub decided-right : (t : ℕ → Bool) (ks : Kinds) (c d : Expr) → IsTruth ks c → decided t ks c ≡ Some d → IsRight t ks c d
decided-right t ks (Same a b) d typed h = same-right t ks a b d typed h
decided-right t ks _ d typed h = cc
