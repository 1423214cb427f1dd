-- Equal texts with one hole have equal cells in it.
use Rattle.std.proofs.Common.{◌≡◌, ◌∙◌, ℕ, Bool, true, true≢false, List, [], ◌∷◌, ◌++◌, Some, None, refl, sym, ap}
use Rattle.std.specs.Prelude.{IsUtf8, option_map, slice_get}
use Rattle.std.specs.List.{AllByRecursion}
use Rattle.std.proofs.lemmas.List.{append_cancel_left, append_cancel_right}
use Rattle.std.proofs.lemmas.Option.{none-some, same_Some}
use Rattle.vkg_lists.specs.Options.{joined}
use Rattle.vkg_lists.proofs.Results.{ok_same}
use Rattle.vkg_terms.specs.Safe.{safe}
use Rattle.vkg_terms.proofs.LabelLemmas.{label_same}
use Rattle.vkg_terms.proofs.SafeLemmas.{safe_same}
use Rattle.vkg_cells.specs.declared.cell.Cell.{Cell}
use Rattle.vkg_cells.specs.declared.cell.SqlType.{SqlType}
use Rattle.vkg_cells.specs.Field.{cell_of_field}
use Rattle.vkg_cells.specs.Form.{lexical_form}
use Rattle.vkg_schema.specs.Rows.{Row, cell_at}
use Rattle.vkg_expr.specs.declared.term_expr.Sort.{Sort}
use Rattle.vkg_expr.specs.declared.term_expr.Sort.TheVariants.{OfIri, OfBlank, OfLit}
use Rattle.vkg_expr.specs.declared.term_expr.Piece.{Piece}
use Rattle.vkg_expr.specs.declared.term_expr.Piece.TheVariants.{Chars, Hole}
use Rattle.vkg_expr.proofs.TermValues.{Text, piece_text, pieces_text, term_made}
use Rattle.vkg_match.proofs.Forms.{Proper}
use Rattle.vkg_plan.specs.Kinds.{Kinds}
use Rattle.vkg_equalities.specs.RecognisedLaw.{IsHoleOf}
use Rattle.vkg_unique.specs.Recovered.{hole_columns, is_one}

-- ---- a cell by its form

-- the text of a hole, from its cell's form
abbrev pub hole_of : Sort → Text → Text
hole_of OfIri o = option_map safe o
hole_of OfBlank o = o
hole_of (OfLit a) o = o

safe_forms : (o p : Text) (s t : List ℕ) → o ≡ Some s → p ≡ Some t → IsUtf8 s → IsUtf8 t → option_map safe o ≡ option_map safe p → o ≡ p
safe_forms o p s t e f u v h =
    let is : safe s ≡ safe t = same_Some (safe s) (safe t) (ap (option_map safe) (sym e) ∙ h ∙ ap (option_map safe) f) in
    e ∙ ap Some (safe_same s t u v is) ∙ sym f

hole-forms : (sort : Sort) (o p : Text) (s t : List ℕ) → o ≡ Some s → p ≡ Some t → IsUtf8 s → IsUtf8 t → hole_of sort o ≡ hole_of sort p → o ≡ p
hole-forms OfIri o p s t e f u v h = safe_forms o p s t e f u v h
hole-forms OfBlank o p s t e f u v h = h
hole-forms (OfLit a) o p s t e f u v h = h

-- cells of one column with one form are one
pub one_form : (k : SqlType) (x y : Cell) (p : Proper k x) (q : Proper k y) → p.form ≡ q.form → x ≡ y
one_form k x y p q e = ok_same x y (sym p.read ∙ ap (cell_of_field k) e ∙ q.read)

one_text : (sort : Sort) (k : SqlType) (x y : Cell) → Proper k x → Proper k y → hole_of sort (lexical_form x) ≡ hole_of sort (lexical_form y) → x ≡ y
one_text sort k x y p q h =
    let o = hole-forms sort (lexical_form x) (lexical_form y) p.form q.form p.is q.is p.spelled q.spelled h in
    one_form k x y p q (same_Some p.form q.form (sym p.is ∙ o ∙ q.is))

-- ---- the text of pieces

chars-text : (sort : Sort) (row : Row) (s : List ℕ) → piece_text sort row (Chars s) ≡ Some s
chars-text OfIri row s = refl
chars-text OfBlank row s = refl
chars-text (OfLit a) row s = refl

hole-text : (sort : Sort) (row : Row) (at : ℕ) (k : SqlType) → piece_text sort row (Hole at k) ≡ hole_of sort (lexical_form (cell_at row at))
hole-text OfIri row at k = refl
hole-text OfBlank row at k = refl
hole-text (OfLit a) row at k = refl

-- without a hole it is the same on each row
fixed-text : (sort : Sort) (ps : List Piece) → hole_columns ps ≡ [] → (t : List ℕ) × ((row : Row) → pieces_text sort row ps ≡ Some t)
fixed-text sort [] e = ([], λ row. refl)
fixed-text sort (Chars s ∷ ps) e = let r = fixed-text sort ps e in (s ++ r.0, λ row i. joined (chars-text sort row s i) (r.1 row i))
fixed-text sort (Hole at k ∷ ps) e = cc

pub after-same : (s : List ℕ) (o p : Text) → joined (Some s) o ≡ joined (Some s) p → o ≡ p
after-same s None None e = refl
after-same s None (Some b) e = absurd (none-some (s ++ b) e)
after-same s (Some a) None e = absurd (none-some (s ++ a) (sym e))
after-same s (Some a) (Some b) e = ap Some (append_cancel_left s a b (same_Some (s ++ a) (s ++ b) e))

before-same : (t : List ℕ) (o p : Text) → joined o (Some t) ≡ joined p (Some t) → o ≡ p
before-same t None None e = refl
before-same t None (Some b) e = absurd (none-some (b ++ t) e)
before-same t (Some a) None e = absurd (none-some (a ++ t) (sym e))
before-same t (Some a) (Some b) e = ap Some (append_cancel_right a b t (same_Some (a ++ t) (b ++ t) e))

-- the cells in the flagged columns are proper ones, not NULL
abbrev pub AreProper : (ℕ → Bool) → Kinds → Row → Type 0
AreProper is_good ks row = (at : ℕ) (k : SqlType) → is_good at ≡ true → slice_get ks at ≡ Some k → Proper k (cell_at row at)

module _ (is_good : ℕ → Bool) (ks : Kinds) (z w : Row) (of_z : AreProper is_good ks z) (of_w : AreProper is_good ks w) where
  pub one-same : (sort : Sort) (ps : List Piece) (at : ℕ) → hole_columns ps ≡ at ∷ [] → AllByRecursion (IsHoleOf ks) ps → is_good at ≡ true → pieces_text sort z ps ≡ pieces_text sort w ps → cell_at z at ≡ cell_at w at
  one-same sort [] at e i g h = cc
  one-same sort (Chars s ∷ ps) at e i g h =
      one-same sort ps at e i.1 g (after-same s (pieces_text sort z ps) (pieces_text sort w ps)
      ((λ j. joined (sym (chars-text sort z s) j) (pieces_text sort z ps)) ∙ h ∙ (λ j. joined (chars-text sort w s j) (pieces_text sort w ps))))
  one-same sort (Hole n k ∷ ps) at e i g h =
      let here : n ≡ at = cc e in
      let none : hole_columns ps ≡ [] = cc e in
      let good : is_good n ≡ true = ap is_good here ∙ g in
      let r = fixed-text sort ps none in
      let both = before-same r.0 (piece_text sort z (Hole n k)) (piece_text sort w (Hole n k))
      ((λ j. joined (piece_text sort z (Hole n k)) (sym (r.1 z) j)) ∙ h ∙ (λ j. joined (piece_text sort w (Hole n k)) (r.1 w j))) in
      let one = one_text sort k (cell_at z n) (cell_at w n) (of_z n k good i.0) (of_w n k good i.0) (sym (hole-text sort z n k) ∙ both ∙ hole-text sort w n k) in
      ap (cell_at z) (sym here) ∙ one ∙ ap (cell_at w) here

-- ---- the term of a text

pub term-text : (sort : Sort) (o p : Text) → option_map (term_made sort) o ≡ option_map (term_made sort) p → o ≡ p
term-text sort None None e = refl
term-text sort None (Some b) e = absurd (none-some (term_made sort b) e)
term-text sort (Some a) None e = absurd (none-some (term_made sort a) (sym e))
term-text sort (Some a) (Some b) e = ap Some (of sort (same_Some (term_made sort a) (term_made sort b) e))
  where
    of : (sort : Sort) → term_made sort a ≡ term_made sort b → a ≡ b
    of OfIri e = cc e
    of OfBlank e = label_same a b (cc e)
    of (OfLit k) e = cc e

pub only : (columns : List ℕ) → is_one columns ≡ true → (at : ℕ) × (columns ≡ at ∷ [])
only [] h = absurd (true≢false (sym h))
only (n ∷ []) h = (n, refl)
only (n ∷ m ∷ columns) h = absurd (true≢false (sym h))
