-- Where a term map has no data error, its expression's value is its term.
use Rattle.std.proofs.Common.{◌≡◌, ◌∙◌, ℕ, Bool, true, false, List, [], ◌∷◌, map, refl, sym, ap}
use Rattle.std.specs.Prelude.{Option, Some, None, option_map, if◌then◌else◌, Ok, Err}
use Rattle.std.proofs.lemmas.Iterator.Adapters.{option_map_id}
use Rattle.vkg_lists.specs.Options.{joined}
use Rattle.vkg_lists.proofs.Onto.{joined_nil}
use Rattle.vkg_terms.specs.declared.term.Annotation.TheVariants.{Plain, Lang, Typed}
use Rattle.vkg_terms.specs.declared.term.Term.TheVariants.{Iri, Lit}
use Rattle.vkg_terms.specs.Iri.{is_absolute, made_absolute}
use Rattle.vkg_cells.specs.declared.cell.SqlType.{SqlType}
use Rattle.vkg_cells.specs.Form.{lexical_form}
use Rattle.vkg_cells.specs.WellTyped.{is_well_typed, is_too_wide}
use Rattle.vkg_schema.specs.Rows.{Row, cell_at}
use Rattle.vkg_maps.specs.declared.data_fault.TermFault.TheVariants.{NotIri, IllTyped, TooWide}
use Rattle.vkg_maps.specs.declared.term_map.TermMap.{TermMap}
use Rattle.vkg_maps.specs.declared.term_map.TermMap.TheVariants as from
use Rattle.vkg_maps.specs.declared.term_map.Piece.{Piece as TemplatePiece}
use Rattle.vkg_maps.specs.declared.term_map.Piece.TheVariants as piece
use Rattle.vkg_maps.specs.declared.term_map.TermType.{TermType}
use Rattle.vkg_maps.specs.declared.term_map.TermType.TheVariants as sort
use Rattle.vkg_maps.specs.DataFaults.{fault_of}
use Rattle.vkg_maps.specs.Terms.{Made as MadeTerm, term_of, term_if_any, term_from, where_value, template_value}
use Rattle.vkg_maps.specs.Terms as maps
use Rattle.vkg_expr.specs.declared.term_expr.Sort.TheVariants.{OfBlank, OfLit}
use Rattle.vkg_expr.specs.declared.term_expr.TermExpr.TheVariants.{Made, Resolved}
use Rattle.vkg_expr.proofs.TermValues.{piece_text, pieces_text, term_made, term_read}
use Rattle.vkg_row_rules.specs.RowDataset.{term_at}
use Rattle.vkg_row_rules.specs.RowTerms.{hole, kind_at, piece_of, row_term, sort_of}

-- no data error
abbrev pub IsMade : MadeTerm → Type 0
IsMade m = fault_of m ≡ []

-- ---- the term of a text

from_text : (t : TermType) (s : List ℕ) → IsMade (term_from t s) → term_if_any (term_from t s) ≡ Some (term_made (sort_of t) s)
from_text sort.Iri s h = of (is_absolute s) h
  where
    of : (b : Bool) → IsMade (if b then Ok (Some (Iri s)) else Err NotIri) → term_if_any (if b then Ok (Some (Iri s)) else Err NotIri) ≡ Some (Iri s)
    of true h = refl
    of false h = cc
from_text sort.Blank s h = refl
from_text (sort.Literal Plain) s h = refl
from_text (sort.Literal (Lang tag)) s h = refl
from_text (sort.Literal (Typed d)) s h = of (is_well_typed d s) (is_too_wide d s) h
  where
    m : Bool → Bool → MadeTerm
    m b c = if b then (if c then Err TooWide else Ok (Some (Lit s (Typed d)))) else Err IllTyped

    of : (b c : Bool) → IsMade (m b c) → term_if_any (m b c) ≡ Some (Lit s (Typed d))
    of true true h = cc
    of true false h = refl
    of false c h = cc

where_text : (t : TermType) (o : Option (List ℕ)) → IsMade (where_value t o) → term_if_any (where_value t o) ≡ option_map (term_made (sort_of t)) o
where_text t None h = refl
where_text t (Some s) h = from_text t s h

-- ---- the text of a template

module _ (ks : List SqlType) (row : Row) where
  one_piece : (t : TermType) (p : TemplatePiece) → piece_text (sort_of t) row (piece_of ks p) ≡ maps.piece_text t row p
  one_piece sort.Iri (piece.Fixed s) = refl
  one_piece sort.Iri (piece.Column c) = refl
  one_piece sort.Blank (piece.Fixed s) = refl
  one_piece sort.Blank (piece.Column c) = sym (option_map_id (lexical_form (cell_at row c)))
  one_piece (sort.Literal a) (piece.Fixed s) = refl
  one_piece (sort.Literal a) (piece.Column c) = sym (option_map_id (lexical_form (cell_at row c)))

  template_text : (t : TermType) (ps : List TemplatePiece) → pieces_text (sort_of t) row (map (piece_of ks) ps) ≡ template_value t row ps
  template_text t [] = refl
  template_text t (p ∷ ps) = λ i. joined (one_piece t p i) (template_text t ps i)

pub row_term_value : (base : List ℕ) (ks : List SqlType) (t : TermMap) (row : Row) → IsMade (term_of base t row) → term_at (row_term base ks t) row ≡ term_if_any (term_of base t row)
row_term_value base ks (from.Constant term) row h = refl
row_term_value base ks (from.Column c sort.Iri) row h =
    term_read row (Resolved base c (kind_at ks c)) ∙ sym (where_text sort.Iri (option_map (made_absolute base) (lexical_form (cell_at row c))) h)
row_term_value base ks (from.Column c sort.Blank) row h =
    let form = lexical_form (cell_at row c) in
    term_read row (Made OfBlank (hole ks c ∷ []))
    ∙ ap (option_map (term_made OfBlank)) (joined_nil (piece_text OfBlank row (hole ks c)) ∙ sym (option_map_id form))
    ∙ sym (where_text sort.Blank (option_map (maps.against base sort.Blank) form) h)
row_term_value base ks (from.Column c (sort.Literal a)) row h =
    let form = lexical_form (cell_at row c) in
    term_read row (Made (OfLit a) (hole ks c ∷ []))
    ∙ ap (option_map (term_made (OfLit a))) (joined_nil (piece_text (OfLit a) row (hole ks c)) ∙ sym (option_map_id form))
    ∙ sym (where_text (sort.Literal a) (option_map (maps.against base (sort.Literal a)) form) h)
row_term_value base ks (from.Template ps t) row h =
    term_read row (Made (sort_of t) (map (piece_of ks) ps))
    ∙ ap (option_map (term_made (sort_of t))) (template_text ks row t ps)
    ∙ sym (where_text t (template_value t row ps) h)
