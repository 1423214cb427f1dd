-- An expression that by its verdict never makes an IRI of ASCII characters makes it on no row.
use Rattle.std.proofs.Common.{◌≡◌, refl, sym, ap, subst, ◌∙◌, ℕ, List, [], ◌∷◌, ◌++◌, true, nat_lt, IsUtf8}
use Rattle.std.specs.Prelude.{Some, None, option_map}
use Rattle.std.specs.List.{AllByRecursion}
use Rattle.std.proofs.lemmas.Option.{same_Some}
use Rattle.std.proofs.lemmas.Str.{IsUtf8-from_ascii}
use Rattle.std.proofs.lemmas.List.Folds.{list_all-append}
use Rattle.vkg_lists.proofs.Bools.{and_parts}
use Rattle.vkg_lists.proofs.Onto.{both_given}
use Rattle.vkg_terms.specs.declared.term.Term.TheVariants.{Iri}
use Rattle.vkg_terms.specs.Same.{term_name}
use Rattle.vkg_terms.specs.Vocabulary.{rr_default_graph}
use Rattle.vkg_cells.proofs.AsciiForms.{ascii_small, small}
use Rattle.vkg_schema.specs.Rows.{Row}
use Rattle.vkg_expr.specs.declared.term_expr.Sort.TheVariants.{OfIri, OfBlank, OfLit}
use Rattle.vkg_expr.specs.declared.term_expr.Piece.{Piece}
use Rattle.vkg_expr.specs.declared.term_expr.Piece.TheVariants.{Chars, Hole}
use Rattle.vkg_expr.specs.declared.term_expr.TermExpr.{TermExpr}
use Rattle.vkg_expr.specs.declared.term_expr.TermExpr.TheVariants.{Fixed, Made, Resolved}
use Rattle.vkg_expr.specs.TermExprs.{term_expr}
use Rattle.vkg_expr.specs.Value.{term_of, value_of}
use Rattle.vkg_expr.proofs.TermValues.{Text, made_term, piece_text, pieces_text, term_made}
use Rattle.vkg_match.specs.Laws.{FitsHoles, HoldsTexts, IsTextPiece}
use Rattle.vkg_match.specs.Verdict.{Never, verdict_of}
use Rattle.vkg_match.proofs.Exact.{never, there_at}

parts_small : (s t w : List ℕ) → s ++ t ≡ w → small w ≡ true → (small s ≡ true) × (small t ≡ true)
parts_small s t w e h = and_parts (small s) (small t) (sym (list_all-append (λ b. nat_lt b 128) s t) ∙ ap small e ∙ h)

iri_texts : (row : Row) (ps : List Piece) (w : List ℕ) → pieces_text OfIri row ps ≡ Some w → small w ≡ true → AllByRecursion IsTextPiece ps
iri_texts row [] w e h = tt
iri_texts row (Chars s ∷ ps) w e h =
    let j = both_given (Some s) (pieces_text OfIri row ps) w e in
    let p = parts_small j.0 j.2.0 w j.2.2 h in
    (subst IsUtf8 (sym (same_Some s j.0 j.1)) (IsUtf8-from_ascii j.0 (ascii_small j.0 p.0)), iri_texts row ps j.2.0 j.2.1 p.1)
iri_texts row (Hole at k ∷ ps) w e h =
    let j = both_given (piece_text OfIri row (Hole at k)) (pieces_text OfIri row ps) w e in
    (tt, iri_texts row ps j.2.0 j.2.1 (parts_small j.0 j.2.0 w j.2.2 h).1)

iri_made : (o : Text) (w : List ℕ) → option_map Iri o ≡ Some (Iri w) → o ≡ Some w
iri_made None w e = cc
iri_made (Some s) w e = cc

no_blank : (o : Text) (w : List ℕ) → option_map (term_made OfBlank) o ≡ Some (Iri w) → ⊥
no_blank None w e = cc
no_blank (Some s) w e = cc

no_literal : (a : _) (o : Text) (w : List ℕ) → option_map (term_made (OfLit a)) o ≡ Some (Iri w) → ⊥
no_literal a None w e = cc
no_literal a (Some s) w e = cc

texts_held : (row : Row) (e : TermExpr) (w : List ℕ) → small w ≡ true → made_term row e ≡ Some (Iri w) → HoldsTexts e
texts_held row (Fixed t) w h e = subst (λ u. IsUtf8 (term_name u)) (sym (same_Some t (Iri w) e)) (IsUtf8-from_ascii w (ascii_small w h))
texts_held row (Made OfIri ps) w h e = iri_texts row ps w (iri_made (pieces_text OfIri row ps) w e) h
texts_held row (Made OfBlank ps) w h e = absurd (no_blank (pieces_text OfBlank row ps) w e)
texts_held row (Made (OfLit a) ps) w h e = absurd (no_literal a (pieces_text (OfLit a) row ps) w e)
texts_held row (Resolved base at k) w h e = tt

-- the constants need not be known to be texts
pub never_iri : (row : Row) (e : TermExpr) (w : List ℕ) → small w ≡ true → FitsHoles row e → verdict_of e (Fixed (Iri w)) ≡ Never → term_of (value_of (term_expr e) row) ≡ Some (Iri w) → ⊥
never_iri row e w h f v m = never row e (Iri w) (texts_held row e w h (there_at row e (Iri w) m), f) (IsUtf8-from_ascii w (ascii_small w h)) v m

-- a graph whose verdict against rr:defaultGraph is never is no rr:defaultGraph
pub never_default : (row : Row) (e : TermExpr) → FitsHoles row e → verdict_of e (Fixed (Iri rr_default_graph)) ≡ Never → term_of (value_of (term_expr e) row) ≡ Some (Iri rr_default_graph) → ⊥
never_default row e f v m = never_iri row e rr_default_graph refl f v m
