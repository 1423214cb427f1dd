-- What a hole makes on a row whose cell fits it.
use Rattle.std.proofs.Common.{◌≡◌, ◌⊎◌, inl, inr, ℕ, refl, sym, ap, subst, ◌∙◌, List, [], ◌∷◌, ◌++◌, Bool, true, false, cond, not, ◌&&◌, ◌||◌, ◌==◌, arith, nat_lt, Result, Ok, Err, IsUtf8, append-nil}
use Rattle.std.specs.Prelude.{Option, Some, None, option_map, option_and_then, bytes_eq, is_some, chars, flat_map, encode_utf8}
use Rattle.std.specs.List.{list_all}
use Rattle.std.specs.Str.{NonePass, NoCharPasses, is_utf8}
use Rattle.std.proofs.lemmas.Option.{cond_some, none-some, same_Some}
use Rattle.std.proofs.lemmas.Slice.Eq.{bytes_eq-Decides}
use Rattle.std.proofs.lemmas.Str.{scalars-chars, is_utf8-from_IsUtf8, IsUtf8-from_is_utf8, NoCharPasses-append, NoCharPasses-nil, encode_ascii}
use Rattle.std.proofs.Math.Bool.{and-true}
use Rattle.vkg_expr.proofs.ReadBack.{truth_back}
use Rattle.percent_encoding.specs.Percent.{percent_decode}
use lib.Utf8.{encode, scalar, scalars}
use Rattle.vkg_lists.proofs.Bools.{and_parts, is_false, same_truth}
use Rattle.vkg_lists.proofs.Counts.{eq_comm, eq_itself}
use Rattle.vkg_lists.proofs.Tests.{test_along}
use Rattle.vkg_lists.proofs.Texts.{bytes_test}
use Rattle.vkg_terms.specs.Safe.{is_safe_character, is_unreserved, percent, safe, safe_character}
use Rattle.vkg_terms.proofs.SafeLemmas.{decode-safe, safe_same, plain, plain_percent, octets}
use Rattle.vkg_cells.specs.declared.cell.SqlType.{SqlType}
use Rattle.vkg_cells.specs.declared.cell.Cell.{Cell}
use Rattle.vkg_cells.specs.declared.cell.Cell.TheVariants as cell
use Rattle.vkg_cells.specs.declared.cell.FieldFault.{FieldFault}
use Rattle.vkg_cells.specs.Field.{cell_of_field}
use Rattle.vkg_cells.specs.Form.{lexical_form}
use Rattle.vkg_cells.specs.Order.{family, family_of, same, same_form}
use Rattle.vkg_cells.proofs.FieldLemmas.{family_is}
use Rattle.vkg_cells.proofs.LawLemmas.{by-form}
use Rattle.vkg_schema.specs.Rows.{Row, cell_at, is_known_true}
use Rattle.vkg_expr.specs.declared.term_expr.Sort.{Sort}
use Rattle.vkg_expr.specs.declared.term_expr.Sort.TheVariants.{OfIri, OfBlank, OfLit}
use Rattle.vkg_expr.specs.declared.term_expr.Piece.TheVariants.{Hole}
use Rattle.vkg_expr.specs.Expr.{Col, Const, Lex, Same}
use Rattle.vkg_expr.specs.Typing.{same_family}
use Rattle.vkg_expr.specs.Value.{holds}
use Rattle.vkg_expr.proofs.TermValues.{Text, piece_text}
use Rattle.vkg_match.specs.Cut.{is_break}
use Rattle.vkg_match.specs.Laws.{FitsHole, is_met}
use Rattle.vkg_match.specs.Sources.{cell_if, cell_with, source_of, text_if}
use Rattle.vkg_match.specs.Verdict.{hole_makes, hole_text, holes_agree, where_cell, where_same}
use Rattle.vkg_match.proofs.Forms.{Proper, proper}
use Rattle.vkg_match.proofs.Splits.{Clear}
use Rattle.vkg_match.proofs.Values.{texts_hold}

-- NULL, or a proper cell
abbrev pub Held : SqlType → Cell → Type 0
Held k c = (c ≡ cell.Null) ⊎ Proper k c

pub held : (k : SqlType) (c : Cell) → FitsHole k c → Held k c
held k c (inl e) = inl e
held k c (inr h) = inr (proper k c h.0 h.1 h.2)

-- ---- equality of cells as a test
known_true : (o : Option Bool) → is_known_true o ≡ true → o ≡ Some true
known_true None e = cc
known_true (Some b) e = ap Some e

-- cells of one family are equal where their forms are
same_known : (c d : Cell) (s t : List ℕ) → family_of c ≡ family_of d → lexical_form c ≡ Some s → lexical_form d ≡ Some t → is_known_true (same c d) ≡ bytes_eq s t
same_known c d s t f a b =
    let law = by-form c d f (ap is_some a) in
    same_truth _ _
    (λ e. (bytes_eq-Decides s t).1 (same_Some s t (sym a ∙ law.0 (known_true (same c d) e) ∙ b)))
    (λ e. ap is_known_true (law.1 (a ∙ ap Some ((bytes_eq-Decides s t).0 e) ∙ sym b)))

null_left : (c d : Cell) → c ≡ cell.Null → is_known_true (same c d) ≡ false
null_left c d e = ap (λ x. is_known_true (same x d)) e

null_right : (c d : Cell) → d ≡ cell.Null → is_known_true (same c d) ≡ false
null_right c d e = ap (λ x. is_known_true (same c x)) e ∙ of c
  where
    of : (c : Cell) → is_known_true (same c cell.Null) ≡ false
    of cell.Null = refl
    of (cell.Text a) = refl
    of (cell.Int a) = refl
    of (cell.Dec a) = refl
    of (cell.Bool a) = refl
    of (cell.Date a) = refl
    of (cell.Stamp a) = refl
    of (cell.Bin a) = refl
    of (cell.Time a) = refl
    of (cell.Term a) = refl

-- ---- the cell that has a form
form_itself : (c : Cell) (s : List ℕ) → lexical_form c ≡ Some s → same_form (lexical_form c) (Some s) ≡ true
form_itself c s e = ap (λ o. same_form o (Some s)) e ∙ eq_itself bytes_test s

with_form : (k : SqlType) (c : Cell) → (h : Proper k c) → cell_with k h.form ≡ Some c
with_form k c h = ap (cell_if h.form) h.read ∙ ap (λ b. cond b (Some c) None) (form_itself c h.form h.is)

form_is : (o : Text) (s : List ℕ) → same_form o (Some s) ≡ true → o ≡ Some s
form_is None s e = cc
form_is (Some r) s e = ap Some ((bytes_eq-Decides r s).0 e)

-- what is found is read from the form, and has it
record Found (k : SqlType) (s : List ℕ) (d : Cell) : Type 0 where
  read : cell_of_field k s ≡ Ok d
  is : lexical_form d ≡ Some s

found_if : (k : SqlType) (s : List ℕ) (d : Cell) (r : Result Cell FieldFault) → cell_of_field k s ≡ r → cell_if s r ≡ Some d → Found k s d
found_if k s d (Err e) h f = cc
found_if k s d (Ok c) h f = elim (same_form (lexical_form c) (Some s)) as (λ b. same_form (lexical_form c) (Some s) ≡ b → cond b (Some c) None ≡ Some d → Found k s d) [
  | true ↦ λ e g. let is = same_Some c d g in record { read = h ∙ ap Ok is; is = ap lexical_form (sym is) ∙ form_is (lexical_form c) s e }
  | false ↦ λ e g. cc
] refl f

-- ---- a hole and a text
-- the verdict for the cell of a form, on a proper cell
cell_met : (row : Row) (hole : ℕ × SqlType) (h : Proper hole.1 (cell_at row hole.0)) (s : List ℕ) (o : Option Cell) → cell_with hole.1 s ≡ o
    → is_met (where_cell hole o) row ≡ bytes_eq s h.form
cell_met row hole h s None e = sym (is_false _ (λ f. none (sym e ∙ ap (cell_with hole.1) ((bytes_eq-Decides s h.form).0 f) ∙ with_form hole.1 (cell_at row hole.0) h)))
  where
    none : ◌≡◌ {A = Option Cell} None (Some (cell_at row hole.0)) → ⊥
    none e = cc
cell_met row hole h s (Some d) e =
    let f = found_if hole.1 s d (cell_of_field hole.1 s) refl e in
    and-true (holds (Same (Col hole.0) (Const d hole.1)) row)
    ∙ ap is_known_true (truth_back (same (cell_at row hole.0) d))
    ∙ same_known (cell_at row hole.0) d h.form s (h.of_family ∙ sym (family_is hole.1 d s f.read)) h.is f.is
    ∙ eq_comm bytes_test h.form s

cell_null : (row : Row) (hole : ℕ × SqlType) (o : Option Cell) → cell_at row hole.0 ≡ cell.Null → is_met (where_cell hole o) row ≡ false
cell_null row hole None e = refl
cell_null row hole (Some d) e = ap (λ b. b && true) (ap is_known_true (truth_back (same (cell_at row hole.0) d)) ∙ null_left (cell_at row hole.0) d e)

pub text_kept : (s t : List ℕ) (b : Bool) → text_if s b ≡ Some t → (IsUtf8 s × (b ≡ true)) × (s ≡ t)
text_kept s t b e = elim (is_utf8 s) as (λ u. is_utf8 s ≡ u → cond (u && b) (Some s) None ≡ Some t → (IsUtf8 s × (b ≡ true)) × (s ≡ t)) [
  | true ↦ λ u f. let h = cond_some b s t f in ((IsUtf8-from_is_utf8 s u, h.0), h.1)
  | false ↦ λ u f. absurd (none-some t f)
] refl e

pub text_there : (s : List ℕ) (b : Bool) → IsUtf8 s → b ≡ true → text_if s b ≡ Some s
text_there s b u e = rw (is_utf8-from_IsUtf8 s u, e) refl

-- the IRI-safe form of a text gives the text back
source_there : (t : List ℕ) → IsUtf8 t → source_of (safe t) ≡ Some t
source_there t u =
    let d = decode-safe t u in
    ap (λ x. text_if x (bytes_eq (safe x) (safe t))) d ∙ text_there t (bytes_eq (safe t) (safe t)) u (eq_itself bytes_test (safe t))

source_is : (s t : List ℕ) → source_of s ≡ Some t → IsUtf8 t × (safe t ≡ s)
source_is s t e =
    let h = text_kept (percent_decode s) t (bytes_eq (safe (percent_decode s)) s) e in
    (subst IsUtf8 h.1 h.0.0, ap safe (sym h.1) ∙ (bytes_eq-Decides (safe (percent_decode s)) s).0 h.0.1)

safe_forms : (s t : List ℕ) → IsUtf8 s → IsUtf8 t → bytes_eq s t ≡ bytes_eq (safe s) (safe t)
safe_forms s t u v = sym (test_along bytes_test bytes_test safe s t (safe_same s t u v))

iri_met : (row : Row) (hole : ℕ × SqlType) (h : Proper hole.1 (cell_at row hole.0)) (s : List ℕ) (o : Text) → source_of s ≡ o
    → is_met (where_cell hole (option_and_then (cell_with hole.1) o)) row ≡ bytes_eq s (safe h.form)
iri_met row hole h s None e = sym (is_false _ (λ f. none-some h.form (sym e ∙ ap source_of ((bytes_eq-Decides s (safe h.form)).0 f) ∙ source_there h.form h.spelled)))
iri_met row hole h s (Some t) e =
    let g = source_is s t e in
    cell_met row hole h t (cell_with hole.1 t) refl ∙ safe_forms t h.form g.0 h.spelled ∙ ap (λ x. bytes_eq x (safe h.form)) g.1

proper_met : (sort : Sort) (row : Row) (hole : ℕ × SqlType) (h : Proper hole.1 (cell_at row hole.0)) (s : List ℕ)
    → is_met (hole_makes sort hole s) row ≡ same_form (Some s) (piece_text sort row (Hole hole.0 hole.1))
proper_met OfIri row hole h s = iri_met row hole h s (source_of s) refl ∙ ap (λ o. same_form (Some s) (option_map safe o)) (sym h.is)
proper_met OfBlank row hole h s = cell_met row hole h s (cell_with hole.1 s) refl ∙ ap (same_form (Some s)) (sym h.is)
proper_met (OfLit a) row hole h s = cell_met row hole h s (cell_with hole.1 s) refl ∙ ap (same_form (Some s)) (sym h.is)

null_text : (sort : Sort) (row : Row) (at : ℕ) (k : SqlType) → cell_at row at ≡ cell.Null → piece_text sort row (Hole at k) ≡ None
null_text OfIri row at k e = ap (λ c. option_map safe (lexical_form c)) e
null_text OfBlank row at k e = ap lexical_form e
null_text (OfLit a) row at k e = ap lexical_form e

-- a hole makes a text where its piece does
pub hole_met : (sort : Sort) (row : Row) (hole : ℕ × SqlType) (s : List ℕ) → FitsHole hole.1 (cell_at row hole.0)
    → is_met (hole_makes sort hole s) row ≡ same_form (Some s) (piece_text sort row (Hole hole.0 hole.1))
hole_met sort row hole s f = of (held hole.1 (cell_at row hole.0) f)
  where
    of : Held hole.1 (cell_at row hole.0) → is_met (hole_makes sort hole s) row ≡ same_form (Some s) (piece_text sort row (Hole hole.0 hole.1))
    of (inl e) = cell_null row hole (option_and_then (cell_with hole.1) (hole_text sort s)) e ∙ ap (same_form (Some s)) (sym (null_text sort row hole.0 hole.1 e))
    of (inr h) = proper_met sort row hole h s

-- ---- two holes
form_none : (o : Text) → same_form o None ≡ false
form_none None = refl
form_none (Some s) = refl

forms_held : (sort : Sort) (row : Row) (h i : ℕ × SqlType) → Held h.1 (cell_at row h.0) → Held i.1 (cell_at row i.0)
    → same_form (lexical_form (cell_at row h.0)) (lexical_form (cell_at row i.0)) ≡ same_form (piece_text sort row (Hole h.0 h.1)) (piece_text sort row (Hole i.0 i.1))
forms_held OfIri row h i (inl e) q = ap (λ c. same_form (lexical_form c) (lexical_form (cell_at row i.0))) e ∙ sym (ap (λ o. same_form o (piece_text OfIri row (Hole i.0 i.1))) (null_text OfIri row h.0 h.1 e))
forms_held OfIri row h i (inr p) (inl e) =
    ap (same_form (lexical_form (cell_at row h.0))) (ap lexical_form e) ∙ form_none (lexical_form (cell_at row h.0))
    ∙ sym (ap (same_form (piece_text OfIri row (Hole h.0 h.1))) (null_text OfIri row i.0 i.1 e) ∙ form_none (piece_text OfIri row (Hole h.0 h.1)))
forms_held OfIri row h i (inr p) (inr q) =
    (λ j. same_form (p.is j) (q.is j)) ∙ safe_forms p.form q.form p.spelled q.spelled ∙ (λ j. same_form (option_map safe (sym p.is j)) (option_map safe (sym q.is j)))
forms_held OfBlank row h i p q = refl
forms_held (OfLit a) row h i p q = refl

cells_held : (row : Row) (h i : ℕ × SqlType) → family h.1 ≡ family i.1 → Held h.1 (cell_at row h.0) → Held i.1 (cell_at row i.0)
    → is_known_true (same (cell_at row h.0) (cell_at row i.0)) ≡ same_form (lexical_form (cell_at row h.0)) (lexical_form (cell_at row i.0))
cells_held row h i f (inl e) q = null_left (cell_at row h.0) (cell_at row i.0) e ∙ sym (ap (λ c. same_form (lexical_form c) (lexical_form (cell_at row i.0))) e)
cells_held row h i f (inr p) (inl e) = null_right (cell_at row h.0) (cell_at row i.0) e ∙ sym (ap (same_form (lexical_form (cell_at row h.0))) (ap lexical_form e) ∙ form_none (lexical_form (cell_at row h.0)))
cells_held row h i f (inr p) (inr q) =
    same_known (cell_at row h.0) (cell_at row i.0) p.form q.form (p.of_family ∙ f ∙ sym q.of_family) p.is q.is ∙ (λ j. same_form (sym p.is j) (sym q.is j))

pub holes_met : (sort : Sort) (row : Row) (h i : ℕ × SqlType) → FitsHole h.1 (cell_at row h.0) → FitsHole i.1 (cell_at row i.0)
    → is_met (holes_agree h i) row ≡ same_form (piece_text sort row (Hole h.0 h.1)) (piece_text sort row (Hole i.0 i.1))
holes_met sort row h i a b =
    elim (same_family h.1 i.1) as (λ t. same_family h.1 i.1 ≡ t → is_met (cond t (where_same (Col h.0) (Col i.0)) (where_same (Lex (Col h.0)) (Lex (Col i.0)))) row ≡ same_form (lexical_form (cell_at row h.0)) (lexical_form (cell_at row i.0))) [
      | true ↦ λ e.
          let f : family h.1 ≡ family i.1 = grind arith in
          and-true (holds (Same (Col h.0) (Col i.0)) row) ∙ ap is_known_true (truth_back (same (cell_at row h.0) (cell_at row i.0))) ∙ cells_held row h i f (held h.1 _ a) (held i.1 _ b)
      | false ↦ λ e. and-true (holds (Same (Lex (Col h.0)) (Lex (Col i.0))) row) ∙ texts_hold row (Lex (Col h.0)) (Lex (Col i.0)) (lexical_form (cell_at row h.0)) (lexical_form (cell_at row i.0)) refl refl
    ] refl
    ∙ forms_held sort row h i (held h.1 _ a) (held i.1 _ b)

-- ---- no hole's text holds a break
none_pass : (sort : Sort) (cs : List ℕ) → ((c : ℕ) → is_break sort c ≡ false) → NonePass (is_break sort) cs
none_pass sort [] h = tt
none_pass sort (c ∷ cs) h = (h c, none_pass sort cs h)

any_clear : (sort : Sort) (s : List ℕ) → ((c : ℕ) → is_break sort c ≡ false) → IsUtf8 s → NoCharPasses (is_break sort) s
any_clear sort s h u = (u.0, u.1.1, none_pass sort u.0 h)

clear_plain : (xs : List ℕ) → list_all plain xs ≡ true → NoCharPasses (is_break OfIri) xs
clear_plain [] e = NoCharPasses-nil (is_break OfIri)
clear_plain (x ∷ xs) e =
    let h = and_parts (plain x) (list_all plain xs) e in
    let g = and_parts (is_safe_character x) (nat_lt x 128) h.0 in
    let r = clear_plain xs h.1 in
    (x ∷ r.0, (λ i. one x g.1 i ++ r.1 i), (ap not g.0, r.2))
  where
    one : (x : ℕ) → nat_lt x 128 ≡ true → encode x ≡ x ∷ []
    one x e = encode_ascii x (let g = e in grind arith)

clear_percents : (bs : List ℕ) → list_all (λ b. nat_lt b 256) bs ≡ true → NoCharPasses (is_break OfIri) (flat_map percent bs)
clear_percents [] e = NoCharPasses-nil (is_break OfIri)
clear_percents (b ∷ bs) e =
    let h = and_parts (nat_lt b 256) (list_all (λ b. nat_lt b 256) bs) e in
    NoCharPasses-append (is_break OfIri) (percent b) (flat_map percent bs) (clear_plain (percent b) (plain_percent b (let g = h.0 in grind arith))) (clear_percents bs h.1)

stays : (c : ℕ) → is_unreserved c ≡ true → is_break OfIri c ≡ false
stays c k = ap (λ b. not (b || c == 37)) k

clear_character : (c : ℕ) → scalar c ≡ true → NoCharPasses (is_break OfIri) (safe_character c)
clear_character c e = elim (is_unreserved c) as (λ b. is_unreserved c ≡ b → NoCharPasses (is_break OfIri) (cond b (encode_utf8 c) (flat_map percent (encode_utf8 c)))) [
  | true ↦ λ f. (c ∷ [], append-nil (encode c), (stays c f, tt))
  | false ↦ λ f. clear_percents (encode c) (octets c e)
] refl

clear_characters : (cs : List ℕ) → scalars cs ≡ true → NoCharPasses (is_break OfIri) (flat_map safe_character cs)
clear_characters [] e = NoCharPasses-nil (is_break OfIri)
clear_characters (c ∷ cs) e =
    let h = and_parts (scalar c) (scalars cs) e in
    NoCharPasses-append (is_break OfIri) (safe_character c) (flat_map safe_character cs) (clear_character c h.0) (clear_characters cs h.1)

clear_safe : (s : List ℕ) → IsUtf8 s → NoCharPasses (is_break OfIri) (safe s)
clear_safe s u = clear_characters (chars s) (scalars-chars s u)

clear_held : (sort : Sort) (row : Row) (at : ℕ) (k : SqlType) → Held k (cell_at row at) → Clear (is_break sort) (piece_text sort row (Hole at k))
clear_held sort row at k (inl e) = subst (Clear (is_break sort)) (sym (null_text sort row at k e)) tt
clear_held OfIri row at k (inr h) = subst (λ o. Clear (is_break OfIri) (option_map safe o)) (sym h.is) (clear_safe h.form h.spelled)
clear_held OfBlank row at k (inr h) = subst (Clear (is_break OfBlank)) (sym h.is) (any_clear OfBlank h.form (λ c. refl) h.spelled)
clear_held (OfLit a) row at k (inr h) = subst (Clear (is_break (OfLit a))) (sym h.is) (any_clear (OfLit a) h.form (λ c. refl) h.spelled)

pub clear_hole : (sort : Sort) (row : Row) (at : ℕ) (k : SqlType) → FitsHole k (cell_at row at) → Clear (is_break sort) (piece_text sort row (Hole at k))
clear_hole sort row at k f = clear_held sort row at k (held k (cell_at row at) f)
