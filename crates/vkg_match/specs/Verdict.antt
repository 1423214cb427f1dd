-- When two expressions make one term: never, or where some equalities all hold.
use Rattle.std.specs.Prelude.{ℕ, Bool, true, false, ◌||◌, List, [], ◌∷◌, ◌++◌, Option, Some, None, option_and_then, option_map, if◌then◌else◌, ◌==◌}
use Rattle.std.specs.Str.{bytes_eq}
use Rattle.vkg_terms.specs.declared.term.Term.{Term}
use Rattle.vkg_terms.specs.declared.term.Term.TheVariants.{Iri, Blank, Lit}
use Rattle.vkg_terms.specs.Same.{annotation_eq, term_eq, term_name}
use Rattle.vkg_cells.specs.declared.cell.SqlType.{SqlType}
use Rattle.vkg_cells.specs.declared.cell.Cell.{Cell}
use Rattle.vkg_expr.specs.declared.term_expr.Sort.{Sort}
use Rattle.vkg_expr.specs.declared.term_expr.Sort.TheVariants.{OfIri, OfBlank, OfLit}
use Rattle.vkg_expr.specs.declared.term_expr.Piece.{Piece}
use Rattle.vkg_expr.specs.declared.term_expr.Piece.TheVariants.{Chars, Hole}
use Rattle.vkg_expr.specs.declared.term_expr.TermExpr.{TermExpr}
use Rattle.vkg_expr.specs.declared.term_expr.TermExpr.TheVariants.{Fixed, Made, Resolved}
use Rattle.vkg_expr.specs.Expr.{Expr, Col, Const, IriOf, Lex, Same}
use Rattle.vkg_expr.specs.TermExprs.{pieces_expr, text_const}
use Rattle.vkg_expr.specs.Typing.{same_family}
use Rattle.vkg_match.specs.declared.cut.Segment.{Segment}
use Rattle.vkg_match.specs.Cut.{Cut, cut_pieces, last_pieces}
use Rattle.vkg_match.specs.Sources.{cell_with, labelled_of, source_of}

pub data Verdict : Type 0 where
  Never : Verdict
  All : (equalities : List Expr) → Verdict

-- both: never, or all of both
abbrev pub both : Verdict → Verdict → Verdict
both (All es) (All fs) = All (es ++ fs)
both v w = Never

abbrev pub when : Bool → Verdict
when holds = if holds then All [] else Never

-- one equality
abbrev pub where_same : Expr → Expr → Verdict
where_same a b = All (Same a b ∷ [])

-- RDF 1.1 Concepts, 3.1: what sort of term an expression makes
abbrev pub sort_of_term : Term → Sort
sort_of_term (Iri s) = OfIri
sort_of_term (Blank s) = OfBlank
sort_of_term (Lit s annotation) = OfLit annotation

abbrev pub sort_of : TermExpr → Sort
sort_of (Fixed t) = sort_of_term t
sort_of (Made sort ps) = sort
sort_of (Resolved base at k) = OfIri

-- RDF 1.1 Concepts, 3.3: literals of another tag or datatype are other terms
abbrev pub same_sort : Sort → Sort → Bool
same_sort OfIri OfIri = true
same_sort OfBlank OfBlank = true
same_sort (OfLit a) (OfLit b) = annotation_eq a b
same_sort s t = false

-- the text of one constant, and the hole that stands alone
abbrev pub constant_of : List Piece → Option (List ℕ)
constant_of [] = Some []
constant_of (Chars text ∷ []) = Some text
constant_of ps = None

abbrev pub lone_hole : List Piece → Option (ℕ × SqlType)
lone_hole (Hole at k ∷ []) = Some (at, k)
lone_hole ps = None

-- R2RML, 7.3: a hole's cell stands in an IRI by the IRI-safe form of its lexical form, else by the form itself
abbrev pub hole_text : Sort → List ℕ → Option (List ℕ)
hole_text OfIri text = source_of text
hole_text sort text = Some text

-- the hole is a cell, if there is one
abbrev pub where_cell : (ℕ × SqlType) → Option Cell → Verdict
where_cell hole None = Never
where_cell hole (Some c) = where_same (Col hole.0) (Const c hole.1)

-- the hole makes this text
abbrev pub hole_makes : Sort → (ℕ × SqlType) → List ℕ → Verdict
hole_makes sort hole text = where_cell hole (option_and_then (cell_with hole.1) (hole_text sort text))

-- two holes make one text: cells of one family have one form exactly where they are equal
abbrev pub holes_agree : (ℕ × SqlType) → (ℕ × SqlType) → Verdict
holes_agree h i = if same_family h.1 i.1 then where_same (Col h.0) (Col i.0) else where_same (Lex (Col h.0)) (Lex (Col i.0))

abbrev pub texts_agree : Sort → List Piece → List Piece → Verdict
texts_agree sort ps qs = where_same (pieces_expr sort ps) (pieces_expr sort qs)

abbrev pub constant_agrees : Sort → List Piece → List Piece → Option (ℕ × SqlType) → List ℕ → Verdict
constant_agrees sort ps qs (Some hole) text = hole_makes sort hole text
constant_agrees sort ps qs None text = texts_agree sort ps qs

abbrev pub holes_or_texts : Sort → List Piece → List Piece → Option (ℕ × SqlType) → Option (ℕ × SqlType) → Verdict
holes_or_texts sort ps qs (Some h) (Some i) = holes_agree h i
holes_or_texts sort ps qs h i = texts_agree sort ps qs

abbrev pub by_constants : Sort → List Piece → List Piece → Option (List ℕ) → Option (List ℕ) → Verdict
by_constants sort ps qs (Some s) (Some t) = when (bytes_eq s t)
by_constants sort ps qs (Some s) None = constant_agrees sort ps qs (lone_hole qs) s
by_constants sort ps qs None (Some t) = constant_agrees sort ps qs (lone_hole ps) t
by_constants sort ps qs None None = holes_or_texts sort ps qs (lone_hole ps) (lone_hole qs)

-- the verdict of one segment
unfoldable pub segment : Sort → List Piece → List Piece → Verdict
segment sort ps qs = by_constants sort ps qs (constant_of ps) (constant_of qs)

-- of one segment and the break behind it: never where the breaks differ
unfoldable pub segment_at : Sort → Segment → Segment → Verdict
segment_at sort m n = if m.mark == n.mark then segment sort m.pieces n.pieces else Never

abbrev pub segments : Sort → List Segment → List Segment → Verdict
segments sort [] [] = All []
segments sort (m ∷ ms) (n ∷ ns) = both (segment_at sort m n) (segments sort ms ns)
segments sort ms ns = Never

abbrev pub cuts_agree : Sort → Cut → Cut → Verdict
cuts_agree sort c d = both (segments sort c.done d.done) (segment sort (last_pieces c) (last_pieces d))

abbrev pub if_cut : Sort → Option Cut → Option Cut → Verdict
if_cut sort (Some c) (Some d) = cuts_agree sort c d
if_cut sort c d = Never

-- the text of a fixed term as a piece; a blank node has the text whose label it is, if there is one
abbrev pub fixed_pieces : Term → Option (List Piece)
fixed_pieces (Blank label) = option_map (λ text. Chars text ∷ []) (labelled_of label)
fixed_pieces t = Some (Chars (term_name t) ∷ [])

abbrev pub pieces_of : TermExpr → Option (List Piece)
pieces_of (Fixed t) = fixed_pieces t
pieces_of (Made sort ps) = Some ps
pieces_of (Resolved base at k) = None

abbrev pub cut_of : Sort → TermExpr → Option Cut
cut_of sort e = option_map (cut_pieces sort) (pieces_of e)

abbrev pub is_resolved : TermExpr → Bool
is_resolved (Resolved base at k) = true
is_resolved e = false

-- the text that the term is made of
abbrev pub whole_text : TermExpr → Expr
whole_text (Fixed t) = text_const (term_name t)
whole_text (Made sort ps) = pieces_expr sort ps
whole_text (Resolved base at k) = IriOf base (Lex (Col at))

abbrev pub of_one_sort : Sort → TermExpr → TermExpr → Verdict
of_one_sort sort e f =
    if is_resolved e || is_resolved f then where_same (whole_text e) (whole_text f)
    else if_cut sort (cut_of sort e) (cut_of sort f)

-- never for two sorts of term
abbrev pub by_sorts : TermExpr → TermExpr → Verdict
by_sorts e f = if same_sort (sort_of e) (sort_of f) then of_one_sort (sort_of e) e f else Never

-- a column over a base is compared by its whole text, all else by segments
abbrev pub verdict_of : TermExpr → TermExpr → Verdict
verdict_of (Fixed t) (Fixed u) = when (term_eq t u)
verdict_of e f = by_sorts e f
