-- The checks on a term map, each by itself: which of them fail.
use Rattle.std.specs.Prelude.{◌≡◌, ℕ, Bool, true, false, List, [], ◌∷◌, filter, is_none, Option, Some, None, Result, Ok, Err}
use Rattle.std.specs.List.{list_any}
use Rattle.vkg_lists.specs.Firsts.{first_of}
use Rattle.vkg_terms.specs.declared.template.Part.{Part}
use Rattle.vkg_terms.specs.declared.template.Standing.{Standing}
use Rattle.vkg_terms.specs.declared.template.Standing.TheVariants as stands
use Rattle.vkg_terms.specs.declared.term.Annotation.TheVariants.{Plain}
use Rattle.vkg_terms.specs.Name.{template_read}
use Rattle.vkg_terms.specs.TemplateParts.{standing}
use Rattle.vkg_schema.specs.declared.table.Column.{Column}
use Rattle.vkg_maps.specs.declared.term_map.TermMap.{TermMap}
use Rattle.vkg_turtle.specs.declared.triple.Triple.{Triple}
use Rattle.vkg_term_maps.specs.declared.place.Role.{Role}
use Rattle.vkg_term_maps.specs.declared.place.Place.{Place}
use Rattle.vkg_term_maps.specs.declared.place.Place.TheVariants as place
use Rattle.vkg_term_maps.specs.declared.error.TermMapFault.{TermMapFault}
use Rattle.vkg_term_maps.specs.declared.error.TermMapFault.TheVariants as fault
use Rattle.vkg_term_maps.specs.declared.error.TermMapError.{TermMapError}
use Rattle.vkg_term_maps.specs.declared.error.TermMapError.TheVariants as error
use Rattle.vkg_term_maps.specs.declared.kind.Kind.{Kind}
use Rattle.vkg_term_maps.specs.declared.kind.Kind.TheVariants as kind
use Rattle.vkg_term_maps.specs.declared.term_type.Sort.{Sort}
use Rattle.vkg_term_maps.specs.declared.term_type.Sort.TheVariants as sort
use Rattle.vkg_term_maps.specs.declared.term_type.Properties.{Properties}
use Rattle.vkg_term_maps.specs.Columns.{column_of}
use Rattle.vkg_term_maps.specs.TermMaps.{constant, kind_at, properties, no_properties, is_annotated, sort_of, annotation_of, piece_of}
use Rattle.vkg_cells.specs.WellTyped.{is_wide_number}

-- R2RML, 7.3: a name of a template is that of no column; a bad template has no columns
abbrev pub names_unknown : List Column → Option (List Part) → Bool
names_unknown columns None = false
names_unknown columns (Some parts) = list_any (λ p. is_none (piece_of columns p)) parts

abbrev pub is_doubtful : Option Sort → Standing → Bool
is_doubtful (Some sort.Iri) stands.Doubtful = true
is_doubtful s stand = false

-- a column's value could make the scheme of an IRI
abbrev pub makes_doubtful : Option Sort → Option (List Part) → Bool
makes_doubtful s None = false
makes_doubtful s (Some parts) = is_doubtful s (standing parts)

-- R2RML, 7.5 and 7.6: of literals a tag or a datatype is bad or not the only one, of other terms there is one
abbrev pub annotates_badly : Properties → Option Sort → Bool
annotates_badly p None = false
annotates_badly p (Some sort.Literal) = is_none (annotation_of Plain p.languages p.datatypes)
annotates_badly p (Some s) = is_annotated p

-- whether a check on a column-valued term map fails
abbrev pub column_fails : Role → Properties → List Column → List ℕ → TermMapFault → Bool
column_fails role p columns text fault.UnknownColumn = is_none (column_of columns text)
column_fails role p columns text fault.TermType = is_none (sort_of role true p.types)
column_fails role p columns text fault.Annotation = annotates_badly p (sort_of role true p.types)
column_fails role p columns text f = false

-- whether a check on a template-valued term map fails
abbrev pub template_fails : Role → Properties → List Column → List ℕ → TermMapFault → Bool
template_fails role p columns text fault.UnknownColumn = names_unknown columns (template_read text)
template_fails role p columns text fault.BadTemplate = is_none (template_read text)
template_fails role p columns text fault.DoubtfulTemplate = makes_doubtful (sort_of role (is_annotated p) p.types) (template_read text)
template_fails role p columns text fault.TermType = is_none (sort_of role (is_annotated p) p.types)
template_fails role p columns text fault.Annotation = annotates_badly p (sort_of role (is_annotated p) p.types)
template_fails role p columns text f = false

-- a check that needs the kind is not asked where the kind is not known; constants are asked for their width alone
abbrev pub fails : Role → Properties → List Column → Option Kind → TermMapFault → Bool
fails role p columns None fault.Kind = true
fails role p columns (Some (kind.Constant t)) fault.WideNumber = is_wide_number t
fails role p columns (Some (kind.Column text)) f = column_fails role p columns text f
fails role p columns (Some (kind.Template text)) f = template_fails role p columns text f
fails role p columns k f = false

-- the checks in their order
abbrev pub checks : List TermMapFault
checks = fault.Kind ∷ fault.UnknownColumn ∷ fault.BadTemplate ∷ fault.DoubtfulTemplate ∷ fault.TermType ∷ fault.Annotation ∷ fault.WideNumber ∷ []

abbrev pub failing : Role → Properties → List Column → Option Kind → List TermMapFault
failing role p columns k = filter (fails role p columns k) checks

-- the checks that fail at a place of a graph, in their order
abbrev pub failing_checks : List Triple → List Column → Role → Place → List TermMapFault
failing_checks triples columns role (place.Constant t) = failing role no_properties columns (constant role t)
failing_checks triples columns role (place.Node node) = failing role (properties triples node) columns (kind_at triples role node)

-- a term map is given where no check fails, else the first that does; want of memory is free
abbrev pub IsFirst : List TermMapFault → Result TermMap TermMapError → Type 0
IsFirst faults (Ok map) = faults ≡ []
IsFirst faults (Err (error.Fault f)) = first_of faults ≡ Some f
IsFirst faults (Err error.Memory) = Unit {0}
