-- R2RML, 7: the term map that stands at a place of a mapping graph, or the first check that fails there.
use Rattle.std.specs.Prelude.{◌≡◌, ℕ, Bool, true, false, not, ◌&&◌, List, [], ◌∷◌, codes, map, slice_get, Option, Some, None, option_and_then, option_map, Result, Ok, Err, if◌then◌else◌}
use Rattle.std.specs.Char.{to_ascii_lowercase}
use Rattle.std.specs.Str.{bytes_eq}
use Rattle.vkg_lists.specs.Results.{mapped}
use Rattle.vkg_lists.specs.Options.{with_first}
use Rattle.vkg_terms.specs.declared.term.Term.{Term}
use Rattle.vkg_terms.specs.declared.term.Term.TheVariants as term
use Rattle.vkg_terms.specs.declared.term.Annotation.{Annotation}
use Rattle.vkg_terms.specs.declared.term.Annotation.TheVariants.{Plain, Lang, Typed}
use Rattle.vkg_terms.specs.declared.template.Part.{Part}
use Rattle.vkg_terms.specs.declared.template.Part.TheVariants as part
use Rattle.vkg_terms.specs.declared.template.Standing.{Standing}
use Rattle.vkg_terms.specs.declared.template.Standing.TheVariants as stands
use Rattle.vkg_terms.specs.Name.{template_read}
use Rattle.vkg_terms.specs.TemplateParts.{standing}
use Rattle.vkg_terms.specs.Vocabulary.{xsd_string, rdf_lang_string}
use Rattle.vkg_cells.specs.Form.{natural}
use Rattle.vkg_cells.specs.WellTyped.{is_wide_number}
use Rattle.vkg_schema.specs.declared.table.Column.{Column}
use Rattle.vkg_maps.specs.declared.term_map.TermMap.{TermMap}
use Rattle.vkg_maps.specs.declared.term_map.TermMap.TheVariants as from
use Rattle.vkg_maps.specs.declared.term_map.Piece.{Piece}
use Rattle.vkg_maps.specs.declared.term_map.Piece.TheVariants as piece
use Rattle.vkg_maps.specs.declared.term_map.TermType.{TermType}
use Rattle.vkg_maps.specs.declared.term_map.TermType.TheVariants as type
use Rattle.vkg_turtle.specs.declared.triple.Triple.{Triple}
use Rattle.vkg_term_maps.specs.declared.place.Role.{Role}
use Rattle.vkg_term_maps.specs.declared.place.Role.TheVariants.{Subject, Object}
use Rattle.vkg_term_maps.specs.declared.place.Place.{Place}
use Rattle.vkg_term_maps.specs.declared.place.Place.TheVariants as place
use Rattle.vkg_term_maps.specs.declared.error.TermMapFault.{TermMapFault}
use Rattle.vkg_term_maps.specs.declared.error.TermMapFault.TheVariants as fault
use Rattle.vkg_term_maps.specs.declared.error.TermMapError.{TermMapError}
use Rattle.vkg_term_maps.specs.declared.error.TermMapError.TheVariants as error
use Rattle.vkg_term_maps.specs.declared.values.Values.{Values}
use Rattle.vkg_term_maps.specs.declared.values.Values.TheVariants.{Absent, One, Several}
use Rattle.vkg_term_maps.specs.declared.kind.Kind.{Kind}
use Rattle.vkg_term_maps.specs.declared.kind.Kind.TheVariants as kind
use Rattle.vkg_term_maps.specs.declared.term_type.Sort.{Sort}
use Rattle.vkg_term_maps.specs.declared.term_type.Sort.TheVariants as sort
use Rattle.vkg_term_maps.specs.declared.term_type.Properties.{Properties}
use Rattle.vkg_term_maps.specs.Vocabulary.{rr}
use Rattle.vkg_term_maps.specs.Graph.{objects}
use Rattle.vkg_term_maps.specs.Columns.{column_of}
use Rattle.vkg_term_maps.specs.Languages.{is_language_tag}

-- the value, or the fault; want of memory is free
abbrev pub Gives : {A : Type 0} → Result A TermMapFault → Result A TermMapError → Type 0
Gives defined (Ok value) = defined ≡ Ok value
Gives defined (Err (error.Fault f)) = defined ≡ Err f
Gives defined (Err error.Memory) = Unit {0}

abbrev pub counted : List Term → Values
counted [] = Absent
counted (t ∷ []) = One t
counted (t ∷ u ∷ ts) = Several

-- the values of a property of a node, of which a term map has at most one
abbrev pub values : List Triple → Term → List ℕ → Values
values triples node name = counted (objects triples node (rr name))

-- ---- R2RML, 7: constant-valued, column-valued, template-valued

-- RDF 1.1 Concepts, 3.3: a literal of rdf:langString has a tag, so one without is none
abbrev pub lacks_tag : Annotation → Bool
lacks_tag (Typed datatype) = bytes_eq datatype rdf_lang_string
lacks_tag annotation = false

-- R2RML, 7.1: a constant is an IRI, of an object map also a literal
abbrev pub constant : Role → Term → Option Kind
constant role (term.Iri iri) = Some (kind.Constant (term.Iri iri))
constant Object (term.Lit text annotation) = if lacks_tag annotation then None else Some (kind.Constant (term.Lit text annotation))
constant role t = None

abbrev pub text_of : Term → Option (List ℕ)
text_of (term.Lit text Plain) = Some text
text_of t = None

-- exactly one of rr:constant, rr:column and rr:template; the values of the last two are plain literals (7.2 and 7.3)
abbrev pub kind_of : Role → Values → Values → Values → Option Kind
kind_of role (One t) Absent Absent = constant role t
kind_of role Absent (One t) Absent = option_map kind.Column (text_of t)
kind_of role Absent Absent (One t) = option_map kind.Template (text_of t)
kind_of role constants columns templates = None

abbrev pub kind_at : List Triple → Role → Term → Option Kind
kind_at triples role node =
    kind_of role (values triples node (codes "constant")) (values triples node (codes "column")) (values triples node (codes "template"))

-- ---- R2RML, 7.4: term types

-- what a term map has beside its value
abbrev pub properties : List Triple → Term → Properties
properties triples node = record {
  types = values triples node (codes "termType");
  languages = values triples node (codes "language");
  datatypes = values triples node (codes "datatype");
}

abbrev pub no_properties : Properties
no_properties = record { types = Absent; languages = Absent; datatypes = Absent }

abbrev pub is_absent : Values → Bool
is_absent Absent = true
is_absent vs = false

abbrev pub is_annotated : Properties → Bool
is_annotated p = not (is_absent p.languages && is_absent p.datatypes)

abbrev pub sort_named : Term → Option Sort
sort_named (term.Iri iri) =
    if bytes_eq iri (rr (codes "IRI")) then Some sort.Iri
    else if bytes_eq iri (rr (codes "BlankNode")) then Some sort.Blank
    else if bytes_eq iri (rr (codes "Literal")) then Some sort.Literal
    else None
sort_named t = None

-- subjects are IRIs or blank nodes, predicates and graph names IRIs
abbrev pub if_allowed : Role → Option Sort → Option Sort
if_allowed Object s = s
if_allowed role (Some sort.Iri) = Some sort.Iri
if_allowed Subject (Some sort.Blank) = Some sort.Blank
if_allowed role s = None

-- the default: literals of an object map that is column-valued or has a language or a datatype
abbrev pub default_sort : Role → Bool → Sort
default_sort Object literal = if literal then sort.Literal else sort.Iri
default_sort role literal = sort.Iri

abbrev pub sort_of : Role → Bool → Values → Option Sort
sort_of role literal Absent = Some (default_sort role literal)
sort_of role literal (One t) = if_allowed role (sort_named t)
sort_of role literal Several = None

-- ---- R2RML, 7.5 and 7.6: language tags and datatypes

-- RDF 1.1 Concepts, 3.3: a tag may be kept in lower case
abbrev pub tagged : List ℕ → Option Annotation
tagged tag = if is_language_tag tag then Some (Lang (map to_ascii_lowercase tag)) else None

abbrev pub of_language : Option (List ℕ) → Option Annotation
of_language tag = option_and_then tagged tag

-- RDF 1.1 Concepts, 3.3: xsd:string is the datatype of plain literals, rdf:langString that of tagged ones
abbrev pub of_datatype : Term → Option Annotation
of_datatype (term.Iri iri) = if bytes_eq iri rdf_lang_string then None else Some (if bytes_eq iri xsd_string then Plain else Typed iri)
of_datatype t = None

-- at most one of both, and else the default
abbrev pub annotation_of : Annotation → Values → Values → Option Annotation
annotation_of default Absent Absent = Some default
annotation_of default (One language) Absent = of_language (text_of language)
annotation_of default Absent (One datatype) = of_datatype datatype
annotation_of default languages datatypes = None

abbrev pub literal_of : Option Annotation → Result TermType TermMapFault
literal_of None = Err fault.Annotation
literal_of (Some annotation) = Ok (type.Literal annotation)

-- a language or a datatype stands on literals alone
abbrev pub unless_annotated : Properties → TermType → Result TermType TermMapFault
unless_annotated p t = if is_annotated p then Err fault.Annotation else Ok t

abbrev pub type_of : Annotation → Properties → Option Sort → Result TermType TermMapFault
type_of default p None = Err fault.TermType
type_of default p (Some sort.Iri) = unless_annotated p type.Iri
type_of default p (Some sort.Blank) = unless_annotated p type.Blank
type_of default p (Some sort.Literal) = literal_of (annotation_of default p.languages p.datatypes)

-- ---- R2RML, 7: the term map

-- a limit of this project: a number has at most 38 digits that count
abbrev pub constant_map : Term → Result TermMap TermMapFault
constant_map t = if is_wide_number t then Err fault.WideNumber else Ok (from.Constant t)

-- R2RML, 10.2: the natural datatype of a column
abbrev pub natural_if_any : Option Column → Annotation
natural_if_any None = Plain
natural_if_any (Some column) = natural column.kind

abbrev pub natural_at : List Column → ℕ → Annotation
natural_at columns at = natural_if_any (slice_get columns at)

abbrev pub column_map : Role → Properties → List Column → Option ℕ → Result TermMap TermMapFault
column_map role p columns None = Err fault.UnknownColumn
column_map role p columns (Some at) = mapped (from.Column at) (type_of (natural_at columns at) p (sort_of role true p.types))

abbrev pub piece_of : List Column → Part → Option Piece
piece_of columns (part.Fixed text) = Some (piece.Fixed text)
piece_of columns (part.Hole name) = option_map piece.Column (column_of columns name)

-- R2RML, 7.3: each name is that of a column
abbrev pub pieces_of : List Column → List Part → Option (List Piece)
pieces_of columns [] = Some []
pieces_of columns (p ∷ ps) = with_first (piece_of columns p) (pieces_of columns ps)

-- own: of an IRI template it is to be known whether the IRIs are absolute; before relative ones stands the base
abbrev pub by_standing : List ℕ → Properties → List Piece → Standing → Option Sort → Result TermMap TermMapFault
by_standing base p pieces stands.Doubtful (Some sort.Iri) = Err fault.DoubtfulTemplate
by_standing base p pieces stands.Relative (Some sort.Iri) = mapped (from.Template (piece.Fixed base ∷ pieces)) (unless_annotated p type.Iri)
by_standing base p pieces stand s = mapped (from.Template pieces) (type_of Plain p s)

abbrev pub of_pieces : Role → Properties → List ℕ → Standing → Option (List Piece) → Result TermMap TermMapFault
of_pieces role p base stand None = Err fault.UnknownColumn
of_pieces role p base stand (Some pieces) = by_standing base p pieces stand (sort_of role (is_annotated p) p.types)

abbrev pub template_map : Role → Properties → List Column → List ℕ → Option (List Part) → Result TermMap TermMapFault
template_map role p columns base None = Err fault.BadTemplate
template_map role p columns base (Some parts) = of_pieces role p base (standing parts) (pieces_of columns parts)

abbrev pub of_kind : Role → Properties → List Column → List ℕ → Option Kind → Result TermMap TermMapFault
of_kind role p columns base None = Err fault.Kind
of_kind role p columns base (Some (kind.Constant t)) = constant_map t
of_kind role p columns base (Some (kind.Column text)) = column_map role p columns (column_of columns text)
of_kind role p columns base (Some (kind.Template text)) = template_map role p columns base (template_read text)

-- the term map at a place of a graph, over these columns and under this base, or the first check that fails
abbrev pub term_map_of : List Triple → List Column → List ℕ → Role → Place → Result TermMap TermMapFault
term_map_of triples columns base role (place.Constant t) = of_kind role no_properties columns base (constant role t)
term_map_of triples columns base role (place.Node node) = of_kind role (properties triples node) columns base (kind_at triples role node)
