-- The term that a term map makes of a row (R2RML, 11.2, generated RDF term).
use Rattle.std.specs.Prelude.{ℕ, List, [], ◌∷◌, Option, Some, None, Result, Ok, Err, option_map, if◌then◌else◌}
use Rattle.std.specs.Result.{result_unwrap_or}
use Rattle.vkg_lists.specs.Options.{joined}
use Rattle.vkg_terms.specs.declared.term.Term.{Term}
use Rattle.vkg_terms.specs.declared.term.Term.TheVariants.{Iri, Blank, Lit}
use Rattle.vkg_terms.specs.declared.term.Annotation.{Annotation}
use Rattle.vkg_terms.specs.declared.term.Annotation.TheVariants.{Typed}
use Rattle.vkg_terms.specs.Safe.{safe}
use Rattle.vkg_terms.specs.Iri.{is_absolute, made_absolute}
use Rattle.vkg_terms.specs.Label.{blank_label}
use Rattle.vkg_cells.specs.Form.{lexical_form}
use Rattle.vkg_cells.specs.WellTyped.{is_well_typed, is_too_wide}
use Rattle.vkg_schema.specs.Rows.{Row, cell_at}
use Rattle.vkg_maps.specs.declared.term_map.TermMap.{TermMap}
use Rattle.vkg_maps.specs.declared.term_map.TermMap.TheVariants as from
use Rattle.vkg_maps.specs.declared.term_map.Piece.{Piece}
use Rattle.vkg_maps.specs.declared.term_map.Piece.TheVariants as piece
use Rattle.vkg_maps.specs.declared.term_map.TermType.{TermType}
use Rattle.vkg_maps.specs.declared.term_map.TermType.TheVariants as sort
use Rattle.vkg_maps.specs.declared.data_fault.TermFault.{TermFault}
use Rattle.vkg_maps.specs.declared.data_fault.TermFault.TheVariants.{NotIri, IllTyped, TooWide}

-- a term, none, or a data error
abbrev pub Made : Type 0
Made = Result (Option Term) TermFault

-- R2RML, 7.3: in an IRI a value is put in its IRI-safe version
abbrev pub put : TermType → List ℕ → List ℕ
put sort.Iri text = safe text
put sort.Blank text = text
put (sort.Literal annotation) text = text

abbrev pub piece_text : TermType → Row → Piece → Option (List ℕ)
piece_text type row (piece.Fixed text) = Some text
piece_text type row (piece.Column column) = option_map (put type) (lexical_form (cell_at row column))

-- R2RML, 7.3, template value: none where a column is NULL
abbrev pub template_value : TermType → Row → List Piece → Option (List ℕ)
template_value type row [] = Some []
template_value type row (p ∷ ps) = joined (piece_text type row p) (template_value type row ps)

-- R2RML, 11.2, IRI: a value that is no absolute IRI is put behind the base
abbrev pub against : List ℕ → TermType → List ℕ → List ℕ
against base sort.Iri text = made_absolute base text
against base sort.Blank text = text
against base (sort.Literal annotation) text = text

-- R2RML, 10.3: the form of an ill-typed literal is a data error; own: so is a number of more than 38 digits
abbrev pub literal : List ℕ → Annotation → Made
literal text (Typed datatype) =
    if is_well_typed datatype text then (if is_too_wide datatype text then Err TooWide else Ok (Some (Lit text (Typed datatype))))
    else Err IllTyped
literal text annotation = Ok (Some (Lit text annotation))

-- R2RML, 11.2, term generation rules
abbrev pub term_from : TermType → List ℕ → Made
term_from sort.Iri text = if is_absolute text then Ok (Some (Iri text)) else Err NotIri
term_from sort.Blank text = Ok (Some (Blank (blank_label text)))
term_from (sort.Literal annotation) text = literal text annotation

abbrev pub where_value : TermType → Option (List ℕ) → Made
where_value type None = Ok None
where_value type (Some text) = term_from type text

-- R2RML, 11.2, the generated RDF term of a term map given a row
abbrev pub term_of : List ℕ → TermMap → Row → Made
term_of base (from.Constant term) row = Ok (Some term)
term_of base (from.Column column type) row = where_value type (option_map (against base type) (lexical_form (cell_at row column)))
term_of base (from.Template pieces type) row = where_value type (template_value type row pieces)

-- the term alone
abbrev pub term_if_any : Made → Option Term
term_if_any made = result_unwrap_or made None
