-- The verdict is exact.
use Rattle.std.proofs.Common.{◌≡◌, ◌⊎◌, inl, inr, ℕ, zero, suc, lit<, nat_lt, refl, sym, ap, subst, ◌∙◌, List, [], ◌∷◌, Bool, true, false, cond, ◌&&◌, ◌||◌, ◌==◌, arith, map, Result, Ok, Err, IsUtf8, append-nil, true≢false}
use Rattle.std.specs.Prelude.{IfOk, Option, Some, None, option_map, bytes_eq, IfSome}
use Rattle.std.specs.List.{AllByRecursion, list_all}
use Rattle.std.proofs.lemmas.Str.{IsUtf8-nil, IsUtf8-append}
use lib.Utf8.{encode, encodes, scalar, scalars}
use Rattle.std.proofs.lemmas.Slice.Eq.{bytes_eq-Decides}
use Rattle.std.proofs.lemmas.List.Folds.{list_all-append}
use Rattle.std.proofs.lemmas.Option.{none-some, same_Some}
use Rattle.std.proofs.Math.Bool.{and-false, and-true}
use Rattle.std.proofs.lemmas.Result.{IfOk-weaker}
use Rattle.hex.specs.Hex.{decode_of, encode_lower, IsBytes}
use Rattle.hex.specs.declared.error.FromHexError.{FromHexError}
use Rattle.hex.proofs.HexLemmas.{decode_of-encode_lower}
use Rattle.vkg_lists.proofs.Bools.{and_true, and_parts, is_false, neither}
use Rattle.vkg_lists.proofs.Tests.{both_pass_comm, test_along}
use Rattle.vkg_lists.proofs.Texts.{bytes_test}
use Rattle.vkg_lists.proofs.Onto.{joined_each, joined_nil, map_lacking}
use Rattle.vkg_terms.specs.declared.term.Term.{Term}
use Rattle.vkg_terms.specs.declared.term.Term.TheVariants.{Iri, Blank, Lit}
use Rattle.vkg_terms.specs.Label.{blank_label}
use Rattle.vkg_terms.specs.Same.{annotation_eq, term_eq, term_name}
use Rattle.vkg_terms.proofs.LabelLemmas.{label_same, label_kit}
use Rattle.vkg_terms.proofs.SameLemmas.{term_itself, terms_apart, annotation_itself, same_annotation}
use Rattle.vkg_terms.proofs.SafeLemmas.{octets}
use Rattle.vkg_cells.specs.declared.cell.SqlType.{SqlType}
use Rattle.vkg_cells.specs.Form.{lexical_form}
use Rattle.vkg_cells.specs.Order.{same_form}
use Rattle.vkg_schema.specs.Rows.{Row, cell_at}
use Rattle.vkg_expr.specs.declared.term_expr.Sort.{Sort}
use Rattle.vkg_expr.specs.declared.term_expr.Sort.TheVariants.{OfIri, OfBlank, OfLit}
use Rattle.vkg_expr.specs.declared.term_expr.Piece.{Piece}
use Rattle.vkg_expr.specs.declared.term_expr.Piece.TheVariants.{Chars, Hole}
use Rattle.vkg_expr.specs.declared.term_expr.TermExpr.{TermExpr}
use Rattle.vkg_expr.specs.declared.term_expr.TermExpr.TheVariants.{Fixed, Made, Resolved}
use Rattle.vkg_expr.specs.TermExprs.{pieces_expr, term_expr}
use Rattle.vkg_expr.specs.Value.{holds, term_of, value_of}
use Rattle.vkg_expr.proofs.TermValues.{Text, made_term, piece_text, pieces_text, pieces_value, term_made, term_read, text_at}
use Rattle.vkg_match.specs.declared.answer.Verdict.{Verdict as VerdictValue}
use Rattle.vkg_match.specs.declared.cut.Segment.{Segment}
use Rattle.vkg_match.specs.Seen.{verdict_seen}
use Rattle.vkg_match.specs.Cut.{cut_pieces, is_break, last_pieces}
use Rattle.vkg_match.specs.Laws.{FitsHole, FitsHoles, FitsPiece, HoldsTexts, IsExact, IsTextPiece, is_met}
use Rattle.vkg_match.specs.Sources.{labelled_of, octets_labelled}
use Rattle.vkg_match.specs.Verdict.{Verdict, Never, All, both, by_constants, by_sorts, constant_agrees, constant_of, cut_of, cuts_agree, holes_or_texts, if_cut, is_resolved, lone_hole, of_one_sort, pieces_of, same_sort, segment, segment_at, segments, sort_of, sort_of_term, texts_agree, verdict_of, when, where_same, whole_text}
use Rattle.vkg_match.proofs.Cuts.{chars_text, cut_fine, cut_text, last_clear, last_fine, part, IsFineSegment}
use Rattle.vkg_match.proofs.Holes.{Held, clear_hole, held, hole_met, holes_met, text_kept, text_there}
use Rattle.vkg_match.proofs.Splits.{ClearPart, agree, split_exact}
use Rattle.vkg_match.proofs.Values.{same_terms, terms_hold, texts_hold, whole_value}

when_met : (row : Row) (b : Bool) → is_met (when b) row ≡ b
when_met row true = refl
when_met row false = refl

both_met : (row : Row) (v w : Verdict) → is_met (both v w) row ≡ (is_met v row && is_met w row)
both_met row Never w = refl
both_met row (All es) Never = sym (and-false (list_all (λ c. holds c row) es))
both_met row (All es) (All fs) = list_all-append (λ c. holds c row) es fs

texts_met : (sort : Sort) (row : Row) (ps qs : List Piece) → is_met (texts_agree sort ps qs) row ≡ same_form (pieces_text sort row ps) (pieces_text sort row qs)
texts_met sort row ps qs =
    and-true _
    ∙ texts_hold row (pieces_expr sort ps) (pieces_expr sort qs) (pieces_text sort row ps) (pieces_text sort row qs) (pieces_value sort row ps) (pieces_value sort row qs)

-- ---- one segment
module _ (sort : Sort) (row : Row) where
  constant_is : (ps : List Piece) (s : List ℕ) → constant_of ps ≡ Some s → pieces_text sort row ps ≡ Some s
  constant_is [] s e = e
  constant_is (Chars t ∷ []) s e = joined_nil (piece_text sort row (Chars t)) ∙ chars_text sort row t ∙ e
  constant_is (Hole at k ∷ []) s e = cc
  constant_is (Chars t ∷ q ∷ ps) s e = cc
  constant_is (Hole at k ∷ q ∷ ps) s e = cc

  record Lone (ps : List Piece) (hole : ℕ × SqlType) : Type 0 where
    is : pieces_text sort row ps ≡ piece_text sort row (Hole hole.0 hole.1)
    fits : FitsHole hole.1 (cell_at row hole.0)

  lone_is : (ps : List Piece) (hole : ℕ × SqlType) → lone_hole ps ≡ Some hole → AllByRecursion (FitsPiece row) ps → Lone ps hole
  lone_is [] hole e h = cc
  lone_is (Chars t ∷ []) hole e h = cc
  lone_is (Hole at k ∷ []) hole e h = subst (Lone (Hole at k ∷ [])) (same_Some (at, k) hole e) (record { is = joined_nil (piece_text sort row (Hole at k)); fits = h.0 })
  lone_is (Chars t ∷ q ∷ ps) hole e h = cc
  lone_is (Hole at k ∷ q ∷ ps) hole e h = cc

  constant_left : (ps qs : List Piece) (s : List ℕ) (o : Option (ℕ × SqlType)) → constant_of ps ≡ Some s → lone_hole qs ≡ o → AllByRecursion (FitsPiece row) ps → AllByRecursion (FitsPiece row) qs
      → is_met (constant_agrees sort ps qs o s) row ≡ same_form (pieces_text sort row ps) (pieces_text sort row qs)
  constant_left ps qs s None c l h g = texts_met sort row ps qs
  constant_left ps qs s (Some hole) c l h g =
      let lone = lone_is qs hole l g in
      hole_met sort row hole s lone.fits ∙ (λ i. same_form (sym (constant_is ps s c) i) (sym lone.is i))

  constant_right : (ps qs : List Piece) (s : List ℕ) (o : Option (ℕ × SqlType)) → constant_of qs ≡ Some s → lone_hole ps ≡ o → AllByRecursion (FitsPiece row) ps → AllByRecursion (FitsPiece row) qs
      → is_met (constant_agrees sort ps qs o s) row ≡ same_form (pieces_text sort row ps) (pieces_text sort row qs)
  constant_right ps qs s None c l h g = texts_met sort row ps qs
  constant_right ps qs s (Some hole) c l h g =
      let lone = lone_is ps hole l h in
      hole_met sort row hole s lone.fits ∙ (λ i. same_form (sym (constant_is qs s c) i) (sym lone.is i)) ∙ both_pass_comm bytes_test (pieces_text sort row qs) (pieces_text sort row ps)

  by_holes : (ps qs : List Piece) (o p : Option (ℕ × SqlType)) → lone_hole ps ≡ o → lone_hole qs ≡ p → AllByRecursion (FitsPiece row) ps → AllByRecursion (FitsPiece row) qs
      → is_met (holes_or_texts sort ps qs o p) row ≡ same_form (pieces_text sort row ps) (pieces_text sort row qs)
  by_holes ps qs None p a b h g = texts_met sort row ps qs
  by_holes ps qs (Some i) None a b h g = texts_met sort row ps qs
  by_holes ps qs (Some i) (Some j) a b h g =
      let one = lone_is ps i a h in
      let two = lone_is qs j b g in
      holes_met sort row i j one.fits two.fits ∙ (λ k. same_form (sym one.is k) (sym two.is k))

  by_forms : (ps qs : List Piece) (o p : Text) → constant_of ps ≡ o → constant_of qs ≡ p → AllByRecursion (FitsPiece row) ps → AllByRecursion (FitsPiece row) qs
      → is_met (by_constants sort ps qs o p) row ≡ same_form (pieces_text sort row ps) (pieces_text sort row qs)
  by_forms ps qs (Some s) (Some t) a b h g = when_met row (bytes_eq s t) ∙ (λ i. same_form (sym (constant_is ps s a) i) (sym (constant_is qs t b) i))
  by_forms ps qs (Some s) None a b h g = constant_left ps qs s (lone_hole qs) a refl h g
  by_forms ps qs None (Some t) a b h g = constant_right ps qs t (lone_hole ps) b refl h g
  by_forms ps qs None None a b h g = by_holes ps qs (lone_hole ps) (lone_hole qs) refl refl h g

  segment_exact : (ps qs : List Piece) → AllByRecursion (FitsPiece row) ps → AllByRecursion (FitsPiece row) qs
      → is_met (segment sort ps qs) row ≡ same_form (pieces_text sort row ps) (pieces_text sort row qs)
  unfolding segment
  segment_exact ps qs h g = by_forms ps qs (constant_of ps) (constant_of qs) refl refl h g

  -- ---- segments with their breaks
  abbrev FineSegment : Segment → Type 0
  FineSegment m = IsFineSegment sort row (FitsPiece row) (λ s. tt) (clear_hole sort row) m

  segment_met : (m n : Segment) → FineSegment m → FineSegment n → is_met (segment_at sort m n) row ≡ ((m.mark == n.mark) && same_form (pieces_text sort row m.pieces) (pieces_text sort row n.pieces))
  unfolding segment_at
  segment_met m n h g = elim (m.mark == n.mark) as (λ b. is_met (cond b (segment sort m.pieces n.pieces) Never) row ≡ (b && same_form (pieces_text sort row m.pieces) (pieces_text sort row n.pieces))) [
    | true ↦ segment_exact m.pieces n.pieces h.1 g.1
    | false ↦ refl
  ]

  segments_met : (ms ns : List Segment) → AllByRecursion FineSegment ms → AllByRecursion FineSegment ns → is_met (segments sort ms ns) row ≡ agree (map (part sort row) ms) (map (part sort row) ns)
  segments_met [] [] h g = refl
  segments_met [] (n ∷ ns) h g = refl
  segments_met (m ∷ ms) [] h g = refl
  segments_met (m ∷ ms) (n ∷ ns) h g =
      both_met row (segment_at sort m n) (segments sort ms ns) ∙ (λ i. segment_met m n h.0 g.0 i && segments_met ms ns h.1 g.1 i)

  parts_clear : (ms : List Segment) → AllByRecursion FineSegment ms → AllByRecursion (ClearPart (is_break sort)) (map (part sort row) ms)
  parts_clear [] h = tt
  parts_clear (m ∷ ms) h = (h.0.0, parts_clear ms h.1)

  -- the whole texts are one exactly where the verdict of their cuts is met
  pub cuts_exact : (ps qs : List Piece) → AllByRecursion (IsTextPiece) ps → AllByRecursion (IsTextPiece) qs → AllByRecursion (FitsPiece row) ps → AllByRecursion (FitsPiece row) qs
      → is_met (cuts_agree sort (cut_pieces sort ps) (cut_pieces sort qs)) row ≡ same_form (pieces_text sort row ps) (pieces_text sort row qs)
  cuts_exact ps qs s t h g =
      let clear = clear_hole sort row in
      let c = cut_pieces sort ps in
      let d = cut_pieces sort qs in
      let fc = cut_fine sort row (FitsPiece row) (λ s. tt) clear ps h in
      let fd = cut_fine sort row (FitsPiece row) (λ s. tt) clear qs g in
      both_met row (segments sort c.done d.done) (segment sort (last_pieces c) (last_pieces d))
      ∙ (λ i. segments_met c.done d.done fc.done fd.done i && segment_exact (last_pieces c) (last_pieces d) (last_fine sort row (FitsPiece row) (λ s. tt) clear c fc) (last_fine sort row (FitsPiece row) (λ s. tt) clear d fd) i)
      ∙ sym (split_exact (is_break sort) (map (part sort row) c.done) (map (part sort row) d.done) (pieces_text sort row (last_pieces c)) (pieces_text sort row (last_pieces d))
      (parts_clear c.done fc.done) (parts_clear d.done fd.done) (last_clear sort row (FitsPiece row) (λ s. tt) clear c fc) (last_clear sort row (FitsPiece row) (λ s. tt) clear d fd))
      ∙ (λ i. same_form (cut_text sort row ps s i) (cut_text sort row qs t i))

-- ---- the label of a text gives the text back
small_bytes : (xs : List ℕ) → list_all (λ b. nat_lt b 256) xs ≡ true → IsBytes xs
small_bytes [] e i = lit< tt
small_bytes (x ∷ xs) e zero = let h = (and_parts (nat_lt x 256) (list_all (λ b. nat_lt b 256) xs) e).0 in grind arith
small_bytes (x ∷ xs) e (suc i) = small_bytes xs (and_parts (nat_lt x 256) (list_all (λ b. nat_lt b 256) xs) e).1 i

encoded_small : (cs : List ℕ) → scalars cs ≡ true → list_all (λ b. nat_lt b 256) (encodes cs) ≡ true
encoded_small [] e = refl
encoded_small (c ∷ cs) e =
    let h = and_parts (scalar c) (scalars cs) e in
    list_all-append (λ b. nat_lt b 256) (encode c) (encodes cs) ∙ and_true _ _ (octets c h.0) (encoded_small cs h.1)

text_bytes : (t : List ℕ) → IsUtf8 t → IsBytes t
text_bytes t u = subst IsBytes u.1.1 (small_bytes (encodes u.0) (encoded_small u.0 u.1.0))

labelled_there : (t : List ℕ) → IsUtf8 t → labelled_of (blank_label t) ≡ Some t
labelled_there t u =
    let b = text_bytes t u in
    ap labelled_of (label_kit t b)
    ∙ ap (octets_labelled (98 ∷ encode_lower t)) (decode_of-encode_lower t b)
    ∙ text_there t (bytes_eq (blank_label t) (98 ∷ encode_lower t)) u ((bytes_eq-Decides (blank_label t) (98 ∷ encode_lower t)).1 (label_kit t b))

labelled_is : (l t : List ℕ) → labelled_of l ≡ Some t → IsUtf8 t × (blank_label t ≡ l)
labelled_is [] t e = cc
labelled_is (b ∷ digits) t e = by (decode_of digits) e
  where
    by : (r : Result (List ℕ) FromHexError) → octets_labelled (b ∷ digits) r ≡ Some t → IsUtf8 t × (blank_label t ≡ b ∷ digits)
    by (Err f) e = cc
    by (Ok octets) e =
        let h = text_kept octets t (bytes_eq (blank_label octets) (b ∷ digits)) e in
        (subst IsUtf8 h.1 h.0.0, ap blank_label (sym h.1) ∙ (bytes_eq-Decides (blank_label octets) (b ∷ digits)).0 h.0.1)

-- ---- terms of one sort
terms_made : (a b : Sort) (o p : Text) → same_sort a b ≡ true → same_terms (option_map (term_made a) o) (option_map (term_made b) p) ≡ same_form o p
terms_made a b None p e = refl
terms_made a b (Some s) None e = refl
terms_made OfIri OfIri (Some s) (Some t) e = refl
terms_made OfBlank OfBlank (Some s) (Some t) e = test_along bytes_test bytes_test blank_label s t (label_same s t)
terms_made (OfLit x) (OfLit y) (Some s) (Some t) e = ap (λ c. bytes_eq s t && c) e ∙ and-true (bytes_eq s t)
terms_made OfIri OfBlank (Some s) (Some t) e = cc
terms_made OfIri (OfLit y) (Some s) (Some t) e = cc
terms_made OfBlank OfIri (Some s) (Some t) e = cc
terms_made OfBlank (OfLit y) (Some s) (Some t) e = cc
terms_made (OfLit x) OfIri (Some s) (Some t) e = cc
terms_made (OfLit x) OfBlank (Some s) (Some t) e = cc

sort_text : (a b : Sort) (row : Row) (ps : List Piece) → same_sort a b ≡ true → pieces_text b row ps ≡ pieces_text a row ps
sort_text OfIri OfIri row ps e = refl
sort_text OfBlank OfBlank row ps e = refl
sort_text (OfLit x) (OfLit y) row ps e = ap (λ a. pieces_text (OfLit a) row ps) (sym (same_annotation x y e))
sort_text OfIri OfBlank row ps e = cc
sort_text OfIri (OfLit y) row ps e = cc
sort_text OfBlank OfIri row ps e = cc
sort_text OfBlank (OfLit y) row ps e = cc
sort_text (OfLit x) OfIri row ps e = cc
sort_text (OfLit x) OfBlank row ps e = cc

-- the constants are texts, and the cells fit
abbrev pub Known : Row → TermExpr → Type 0
Known row e = HoldsTexts e × FitsHoles row e

-- ---- expressions whose text has pieces
record HasPieces (row : Row) (e : TermExpr) (ps : List Piece) : Type 0 where
  makes : made_term row e ≡ option_map (term_made (sort_of e)) (pieces_text (sort_of e) row ps)
  written : AllByRecursion IsTextPiece ps
  fitted : AllByRecursion (FitsPiece row) ps

has_pieces : (row : Row) (e : TermExpr) (ps : List Piece) → pieces_of e ≡ Some ps → HoldsTexts e → FitsHoles row e → HasPieces row e ps
has_pieces row (Fixed (Iri s)) ps e t f = subst (HasPieces row (Fixed (Iri s))) (same_Some (Chars s ∷ []) ps e) (record { makes = ap (λ r. Some (Iri r)) (sym (append-nil s)); written = (t, tt); fitted = (tt, tt) })
has_pieces row (Fixed (Lit s a)) ps e t f = subst (HasPieces row (Fixed (Lit s a))) (same_Some (Chars s ∷ []) ps e) (record { makes = ap (λ r. Some (Lit r a)) (sym (append-nil s)); written = (t, tt); fitted = (tt, tt) })
has_pieces row (Fixed (Blank l)) ps e t f = by (labelled_of l) refl e
  where
    by : (o : Text) → labelled_of l ≡ o → option_map (λ t. Chars t ∷ []) o ≡ Some ps → HasPieces row (Fixed (Blank l)) ps
    by None g e = cc
    by (Some t) g e =
        let h = labelled_is l t g in
        subst (HasPieces row (Fixed (Blank l))) (same_Some (Chars t ∷ []) ps e) (record { makes = ap (λ r. Some (Blank r)) (sym h.1 ∙ ap blank_label (sym (append-nil t))); written = (h.0, tt); fitted = (tt, tt) })
has_pieces row (Made sort qs) ps e t f = subst (HasPieces row (Made sort qs)) (same_Some qs ps e) (record { makes = refl; written = t; fitted = f })
has_pieces row (Resolved base at k) ps e t f = cc

pieces_exact : (row : Row) (e f : TermExpr) (ps qs : List Piece) → same_sort (sort_of e) (sort_of f) ≡ true → HasPieces row e ps → HasPieces row f qs
    → same_terms (made_term row e) (made_term row f) ≡ is_met (cuts_agree (sort_of e) (cut_pieces (sort_of e) ps) (cut_pieces (sort_of e) qs)) row
pieces_exact row e f ps qs s h g =
    (λ i. same_terms (h.makes i) (g.makes i))
    ∙ terms_made (sort_of e) (sort_of f) (pieces_text (sort_of e) row ps) (pieces_text (sort_of f) row qs) s
    ∙ ap (same_form (pieces_text (sort_of e) row ps)) (sort_text (sort_of e) (sort_of f) row qs s)
    ∙ sym (cuts_exact (sort_of e) row ps qs h.written g.written h.fitted g.fitted)

-- ---- a blank node whose label belongs to no text
abbrev Spelled : Text → Type 0
Spelled o = IfSome o IsUtf8

blank_spelled : (row : Row) (ps : List Piece) → AllByRecursion IsTextPiece ps → AllByRecursion (FitsPiece row) ps → Spelled (pieces_text OfBlank row ps)
blank_spelled row [] t h = IsUtf8-nil
blank_spelled row (Chars s ∷ ps) t h = joined_each IsUtf8 IsUtf8-append (Some s) (pieces_text OfBlank row ps) t.0 (blank_spelled row ps t.1 h.1)
blank_spelled row (Hole at k ∷ ps) t h = joined_each IsUtf8 IsUtf8-append (lexical_form (cell_at row at)) (pieces_text OfBlank row ps) (of (held k (cell_at row at) h.0)) (blank_spelled row ps t.1 h.1)
  where
    of : Held k (cell_at row at) → Spelled (lexical_form (cell_at row at))
    of (inl e) = subst Spelled (sym (ap lexical_form e)) tt
    of (inr p) = subst Spelled (sym p.is) p.spelled

no_text : (l : List ℕ) (o : Text) → labelled_of l ≡ None → Spelled o → same_terms (Some (Blank l)) (option_map (term_made OfBlank) o) ≡ false
no_text l None e h = refl
no_text l (Some t) e h = is_false _ (λ f. none-some t (sym e ∙ ap labelled_of ((bytes_eq-Decides l (blank_label t)).0 f) ∙ labelled_there t h))

abbrev is_fixed : TermExpr → Bool
is_fixed (Fixed t) = true
is_fixed e = false

-- only a fixed blank node has no pieces, but for a column over a base
record NoPieces (e : TermExpr) : Type 0 where
  label : List ℕ
  is : e ≡ Fixed (Blank label)
  none : labelled_of label ≡ None

no_pieces : (e : TermExpr) → pieces_of e ≡ None → is_resolved e ≡ false → NoPieces e
no_pieces (Fixed (Iri s)) e r = cc
no_pieces (Fixed (Lit s a)) e r = cc
no_pieces (Fixed (Blank l)) e r = record { label = l; is = refl; none = map_lacking (λ t. Chars t ∷ []) (labelled_of l) e }
no_pieces (Made sort ps) e r = cc
no_pieces (Resolved base at k) e r = cc

blank_apart : (row : Row) (l : List ℕ) (f : TermExpr) → labelled_of l ≡ None → is_fixed f ≡ false → is_resolved f ≡ false → same_sort OfBlank (sort_of f) ≡ true → HoldsTexts f → FitsHoles row f → same_terms (Some (Blank l)) (made_term row f) ≡ false
blank_apart row l (Fixed t) n x r s u h = cc
blank_apart row l (Made OfBlank ps) n x r s u h = no_text l (pieces_text OfBlank row ps) n (blank_spelled row ps u h)
blank_apart row l (Made OfIri ps) n x r s u h = cc
blank_apart row l (Made (OfLit a) ps) n x r s u h = cc
blank_apart row l (Resolved base at k) n x r s u h = cc

sort_turned : (a b : Sort) → same_sort a b ≡ true → same_sort b a ≡ true
sort_turned OfIri OfIri e = refl
sort_turned OfBlank OfBlank e = refl
sort_turned (OfLit x) (OfLit y) e = subst (λ z. annotation_eq z x ≡ true) (same_annotation x y e) (annotation_itself x)
sort_turned OfIri OfBlank e = cc
sort_turned OfIri (OfLit y) e = cc
sort_turned OfBlank OfIri e = cc
sort_turned OfBlank (OfLit y) e = cc
sort_turned (OfLit x) OfIri e = cc
sort_turned (OfLit x) OfBlank e = cc

-- at most one of the two is fixed
abbrev IsComposed : TermExpr → TermExpr → Type 0
IsComposed e f = (is_fixed e && is_fixed f) ≡ false

cut_exact : (row : Row) (e f : TermExpr) (o p : Option (List Piece)) → pieces_of e ≡ o → pieces_of f ≡ p → IsComposed e f → is_resolved e ≡ false → is_resolved f ≡ false
    → same_sort (sort_of e) (sort_of f) ≡ true → Known row e → Known row f
    → same_terms (made_term row e) (made_term row f) ≡ is_met (if_cut (sort_of e) (option_map (cut_pieces (sort_of e)) o) (option_map (cut_pieces (sort_of e)) p)) row
cut_exact row e f (Some ps) (Some qs) a b c r q s h g = pieces_exact row e f ps qs s (has_pieces row e ps a h.0 h.1) (has_pieces row f qs b g.0 g.1)
cut_exact row e f None p a b c r q s h g =
    let n = no_pieces e a r in
    let c' : is_fixed f ≡ false = subst (λ x. (is_fixed x && is_fixed f) ≡ false) n.is c in
    let s' : same_sort OfBlank (sort_of f) ≡ true = subst (λ x. same_sort (sort_of x) (sort_of f) ≡ true) n.is s in
    ap (λ x. same_terms (made_term row x) (made_term row f)) n.is ∙ blank_apart row n.label f n.none c' q s' g.0 g.1
cut_exact row e f (Some ps) None a b c r q s h g =
    let n = no_pieces f b q in
    let c' : is_fixed e ≡ false = first (is_fixed e) (subst (λ x. (is_fixed e && is_fixed x) ≡ false) n.is c) in
    let s' : same_sort OfBlank (sort_of e) ≡ true = subst (λ x. same_sort (sort_of x) (sort_of e) ≡ true) n.is (sort_turned (sort_of e) (sort_of f) s) in
    both_pass_comm terms_apart (made_term row e) (made_term row f) ∙ ap (λ x. same_terms (made_term row x) (made_term row e)) n.is ∙ blank_apart row n.label e n.none c' r s' h.0 h.1
  where
    first : (b : Bool) → (b && true) ≡ false → b ≡ false
    first true e = e
    first false e = refl

-- ---- a column over a base
iri_at : (row : Row) (f : TermExpr) → same_sort OfIri (sort_of f) ≡ true → made_term row f ≡ option_map Iri (text_at row f)
iri_at row (Fixed (Iri s)) e = refl
iri_at row (Fixed (Blank s)) e = cc
iri_at row (Fixed (Lit s a)) e = cc
iri_at row (Made OfIri ps) e = refl
iri_at row (Made OfBlank ps) e = cc
iri_at row (Made (OfLit a) ps) e = cc
iri_at row (Resolved base at k) e = refl

whole_exact : (row : Row) (e f : TermExpr) → same_sort OfIri (sort_of e) ≡ true → same_sort OfIri (sort_of f) ≡ true
    → same_terms (made_term row e) (made_term row f) ≡ is_met (where_same (whole_text e) (whole_text f)) row
whole_exact row e f a b =
    (λ i. same_terms (iri_at row e a i) (iri_at row f b i))
    ∙ terms_made OfIri OfIri (text_at row e) (text_at row f) refl
    ∙ sym (and-true _ ∙ texts_hold row (whole_text e) (whole_text f) (text_at row e) (text_at row f) (whole_value row e) (whole_value row f))

resolved_sort : (e : TermExpr) → is_resolved e ≡ true → sort_of e ≡ OfIri
resolved_sort (Fixed t) e = cc
resolved_sort (Made sort ps) e = cc
resolved_sort (Resolved base at k) e = refl

iris : (a b : Sort) → same_sort a b ≡ true → (a ≡ OfIri) ⊎ (b ≡ OfIri) → (same_sort OfIri a ≡ true) × (same_sort OfIri b ≡ true)
iris a b e (inl f) = (ap (same_sort OfIri) f, subst (λ s. same_sort s b ≡ true) f e)
iris a b e (inr f) = (subst (λ s. same_sort s a ≡ true) f (sort_turned a b e), ap (same_sort OfIri) f)

either_resolved : (e f : TermExpr) → (is_resolved e || is_resolved f) ≡ true → (sort_of e ≡ OfIri) ⊎ (sort_of f ≡ OfIri)
either_resolved (Fixed t) f e = inr (resolved_sort f e)
either_resolved (Made sort ps) f e = inr (resolved_sort f e)
either_resolved (Resolved base at k) f e = inl refl

one_sort_exact : (row : Row) (e f : TermExpr) → IsComposed e f → same_sort (sort_of e) (sort_of f) ≡ true → Known row e → Known row f
    → same_terms (made_term row e) (made_term row f) ≡ is_met (of_one_sort (sort_of e) e f) row
one_sort_exact row e f c s h g =
    elim (is_resolved e || is_resolved f) as (λ b. (is_resolved e || is_resolved f) ≡ b → same_terms (made_term row e) (made_term row f) ≡ is_met (cond b (where_same (whole_text e) (whole_text f)) (if_cut (sort_of e) (cut_of (sort_of e) e) (cut_of (sort_of e) f))) row) [
      | true ↦ λ x. let i = iris (sort_of e) (sort_of f) s (either_resolved e f x) in whole_exact row e f i.0 i.1
      | false ↦ λ x. let n = neither (is_resolved e) (is_resolved f) x in cut_exact row e f (pieces_of e) (pieces_of f) refl refl c n.0 n.1 s h g
    ] refl

-- ---- two sorts
made_sort : (sort : Sort) (o : Text) (t : Term) → option_map (term_made sort) o ≡ Some t → sort_of_term t ≡ sort
made_sort sort None t e = cc
made_sort OfIri (Some s) t e = ap sort_of_term (sym (same_Some (Iri s) t e))
made_sort OfBlank (Some s) t e = ap sort_of_term (sym (same_Some (Blank (blank_label s)) t e))
made_sort (OfLit a) (Some s) t e = ap sort_of_term (sym (same_Some (Lit s a) t e))

sort_at : (row : Row) (e : TermExpr) (t : Term) → made_term row e ≡ Some t → sort_of_term t ≡ sort_of e
sort_at row (Fixed u) t e = ap sort_of_term (sym (same_Some u t e))
sort_at row (Made sort ps) t e = made_sort sort (pieces_text sort row ps) t e
sort_at row (Resolved base at k) t e = made_sort OfIri (text_at row (Resolved base at k)) t e

equal_sort : (s t : Term) → term_eq s t ≡ true → same_sort (sort_of_term s) (sort_of_term t) ≡ true
equal_sort (Iri a) (Iri b) e = refl
equal_sort (Blank a) (Blank b) e = refl
equal_sort (Lit a x) (Lit b y) e = (and_parts (bytes_eq a b) (annotation_eq x y) e).1
equal_sort (Iri a) (Blank b) e = cc
equal_sort (Iri a) (Lit b y) e = cc
equal_sort (Blank a) (Iri b) e = cc
equal_sort (Blank a) (Lit b y) e = cc
equal_sort (Lit a x) (Iri b) e = cc
equal_sort (Lit a x) (Blank b) e = cc

sorts_apart : (row : Row) (e f : TermExpr) (o p : Option Term) → made_term row e ≡ o → made_term row f ≡ p → same_sort (sort_of e) (sort_of f) ≡ false → same_terms o p ≡ false
sorts_apart row e f None p a b s = refl
sorts_apart row e f (Some t) None a b s = refl
sorts_apart row e f (Some t) (Some u) a b s =
    is_false _ (λ x. true≢false (sym (equal_sort t u x) ∙ (λ i. same_sort (sort_at row e t a i) (sort_at row f u b i)) ∙ s))

by_sorts_exact : (row : Row) (e f : TermExpr) → IsComposed e f → Known row e → Known row f → same_terms (made_term row e) (made_term row f) ≡ is_met (by_sorts e f) row
by_sorts_exact row e f c h g =
    elim (same_sort (sort_of e) (sort_of f)) as (λ b. same_sort (sort_of e) (sort_of f) ≡ b → same_terms (made_term row e) (made_term row f) ≡ is_met (cond b (of_one_sort (sort_of e) e f) Never) row) [
      | true ↦ λ s. one_sort_exact row e f c s h g
      | false ↦ λ s. sorts_apart row e f (made_term row e) (made_term row f) refl refl s
    ] refl

pub terms_exact : (row : Row) (e f : TermExpr) → Known row e → Known row f → same_terms (made_term row e) (made_term row f) ≡ is_met (verdict_of e f) row
terms_exact row (Fixed t) (Fixed u) h g = sym (when_met row (term_eq t u))
terms_exact row (Fixed t) (Made sort ps) h g = by_sorts_exact row (Fixed t) (Made sort ps) refl h g
terms_exact row (Fixed t) (Resolved base at k) h g = by_sorts_exact row (Fixed t) (Resolved base at k) refl h g
terms_exact row (Made sort ps) f h g = by_sorts_exact row (Made sort ps) f refl h g
terms_exact row (Resolved base at k) f h g = by_sorts_exact row (Resolved base at k) f refl h g

-- the verdict is exact
pub exact : (e f : TermExpr) → IsExact e f (verdict_of e f)
exact e f s t row h g = terms_hold row e f ∙ terms_exact row e f (s, h) (t, g)

pub there_at : (row : Row) (e : TermExpr) (t : Term) → term_of (value_of (term_expr e) row) ≡ Some t → made_term row e ≡ Some t
there_at row e t m = sym (term_read row e) ∙ m

-- an expression that never makes a term makes it on no row
pub never : (row : Row) (e : TermExpr) (t : Term) → Known row e → IsUtf8 (term_name t) → verdict_of e (Fixed t) ≡ Never → term_of (value_of (term_expr e) row) ≡ Some t → ⊥
never row e t h u v m =
    true≢false (sym (term_itself t) ∙ (λ i. same_terms (sym (there_at row e t m) i) (Some t)) ∙ terms_exact row e (Fixed t) h (u, tt) ∙ ap (λ w. is_met w row) v)

pub exactly : (e f : TermExpr) (v : Verdict) → v ≡ verdict_of e f → IsExact e f v
exactly e f v is = subst (IsExact e f) (sym is) (exact e f)

pub exacts : {E : Type 0} (e f : TermExpr) (r : Result VerdictValue E) → IfOk r (λ v. verdict_seen v ≡ verdict_of e f) → IfOk r (λ v. IsExact e f (verdict_seen v))
exacts e f r h = IfOk-weaker r (λ v. verdict_seen v ≡ verdict_of e f) (λ v. IsExact e f (verdict_seen v)) (λ v i. exactly e f (verdict_seen v) i) h
