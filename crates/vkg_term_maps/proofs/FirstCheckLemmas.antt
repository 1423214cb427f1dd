-- What is answered is the first check that fails.
use Rattle.std.proofs.Common.{◌≡◌, refl, sym, ◌∙◌, ap, subst, ℕ, List, [], ◌∷◌, Bool, true, false, cond, ◌||◌, Option, Some, None}
use Rattle.std.specs.Prelude.{Result, Ok, Err, is_none, if◌then◌else◌}
use Rattle.std.specs.List.{list_any}
use Rattle.vkg_lists.specs.Results.{mapped}
use Rattle.vkg_lists.specs.Options.{with_first}
use Rattle.vkg_lists.specs.Firsts.{first_of}
use Rattle.vkg_terms.specs.declared.term.Term.{Term}
use Rattle.vkg_terms.specs.declared.term.Annotation.{Annotation}
use Rattle.vkg_terms.specs.declared.term.Annotation.TheVariants.{Plain}
use Rattle.vkg_terms.specs.declared.template.Part.{Part}
use Rattle.vkg_terms.specs.declared.template.Standing.{Standing}
use Rattle.vkg_terms.specs.declared.template.Standing.TheVariants as stands
use Rattle.vkg_terms.specs.Name.{template_read}
use Rattle.vkg_terms.specs.TemplateParts.{standing}
use Rattle.vkg_schema.specs.declared.table.Column.{Column}
use Rattle.vkg_maps.specs.declared.term_map.TermMap.{TermMap}
use Rattle.vkg_maps.specs.declared.term_map.TermMap.TheVariants as from
use Rattle.vkg_maps.specs.declared.term_map.Piece.{Piece}
use Rattle.vkg_maps.specs.declared.term_map.TermType.{TermType}
use Rattle.vkg_turtle.specs.declared.triple.Triple.{Triple}
use Rattle.vkg_term_maps.specs.declared.place.Role.{Role}
use Rattle.vkg_term_maps.specs.declared.place.Place.{Place}
use Rattle.vkg_term_maps.specs.declared.place.Place.TheVariants as place
use Rattle.vkg_term_maps.specs.declared.error.TermMapFault.{TermMapFault}
use Rattle.vkg_term_maps.specs.declared.error.TermMapFault.TheVariants as fault
use Rattle.vkg_term_maps.specs.declared.error.TermMapError.{TermMapError}
use Rattle.vkg_term_maps.specs.declared.error.TermMapError.TheVariants as error
use Rattle.vkg_term_maps.specs.declared.values.Values.{Values}
use Rattle.vkg_term_maps.specs.declared.values.Values.TheVariants.{Absent, One, Several}
use Rattle.vkg_term_maps.specs.declared.kind.Kind.{Kind}
use Rattle.vkg_term_maps.specs.declared.kind.Kind.TheVariants as kind
use Rattle.vkg_term_maps.specs.declared.term_type.Sort.{Sort}
use Rattle.vkg_term_maps.specs.declared.term_type.Sort.TheVariants as sort
use Rattle.vkg_term_maps.specs.declared.term_type.Properties.{Properties}
use Rattle.vkg_term_maps.specs.Columns.{column_of}
use Rattle.vkg_term_maps.specs.TermMaps.{Gives, is_annotated, sort_of, annotation_of, literal_of, type_of, constant, natural_at, column_map, piece_of, pieces_of, by_standing, of_pieces, template_map, of_kind, kind_at, properties, no_properties, term_map_of}
use Rattle.vkg_term_maps.specs.FirstCheck.{annotates_badly, is_doubtful, names_unknown, makes_doubtful, failing, failing_checks, IsFirst}
use Rattle.vkg_cells.specs.WellTyped.{is_wide_number}

abbrev FirstOf : List TermMapFault → Result TermMap TermMapFault → Type 0
FirstOf faults (Ok map) = faults ≡ []
FirstOf faults (Err f) = first_of faults ≡ Some f

-- the check, if it fails, before the others
abbrev before : Bool → TermMapFault → List TermMapFault → List TermMapFault
before b f rest = cond b (f ∷ rest) rest

abbrev type_faults : Properties → Option Sort → List TermMapFault
type_faults p s = before (is_none s) fault.TermType (before (annotates_badly p s) fault.Annotation [])

same_none : (n m : Annotation) (languages datatypes : Values) → is_none (annotation_of n languages datatypes) ≡ is_none (annotation_of m languages datatypes)
same_none n m Absent Absent = refl
same_none n m Absent (One t) = refl
same_none n m Absent Several = refl
same_none n m (One t) Absent = refl
same_none n m (One t) (One u) = refl
same_none n m (One t) Several = refl
same_none n m Several Absent = refl
same_none n m Several (One t) = refl
same_none n m Several Several = refl

of_literal : (made : TermType → TermMap) (a : Option Annotation) → FirstOf (before (is_none a) fault.Annotation []) (mapped made (literal_of a))
of_literal made None = refl
of_literal made (Some a) = refl

of_other : (made : TermType → TermMap) (b : Bool) (t : TermType) → FirstOf (before b fault.Annotation []) (mapped made (if b then Err fault.Annotation else Ok t))
of_other made true t = refl
of_other made false t = refl

type_first : (made : TermType → TermMap) (n : Annotation) (p : Properties) (s : Option Sort) → FirstOf (type_faults p s) (mapped made (type_of n p s))
type_first made n p None = refl
type_first made n p (Some sort.Iri) = of_other made (is_annotated p) _
type_first made n p (Some sort.Blank) = of_other made (is_annotated p) _
type_first made n p (Some sort.Literal) =
    subst (λ b. FirstOf (before b fault.Annotation []) (mapped made (literal_of (annotation_of n p.languages p.datatypes))))
    (same_none n Plain p.languages p.datatypes) (of_literal made (annotation_of n p.languages p.datatypes))

constant_first : (b : Bool) (t : Term) → FirstOf (before b fault.WideNumber []) (if b then Err fault.WideNumber else Ok (from.Constant t))
constant_first true t = refl
constant_first false t = refl

column_first : (role : Role) (p : Properties) (columns : List Column) (o : Option ℕ) → FirstOf (before (is_none o) fault.UnknownColumn (type_faults p (sort_of role true p.types))) (column_map role p columns o)
column_first role p columns None = refl
column_first role p columns (Some at) = type_first (from.Column at) (natural_at columns at) p (sort_of role true p.types)

standing_first : (base : List ℕ) (p : Properties) (pieces : List Piece) (stand : Standing) (s : Option Sort) → FirstOf (before (is_doubtful s stand) fault.DoubtfulTemplate (type_faults p s)) (by_standing base p pieces stand s)
standing_first base p pieces stands.Absolute None = refl
standing_first base p pieces stands.Relative None = refl
standing_first base p pieces stands.Doubtful None = refl
standing_first base p pieces stands.Absolute (Some sort.Iri) = type_first _ Plain p (Some sort.Iri)
standing_first base p pieces stands.Relative (Some sort.Iri) = type_first _ Plain p (Some sort.Iri)
standing_first base p pieces stands.Doubtful (Some sort.Iri) = refl
standing_first base p pieces stands.Absolute (Some sort.Blank) = type_first _ Plain p (Some sort.Blank)
standing_first base p pieces stands.Relative (Some sort.Blank) = type_first _ Plain p (Some sort.Blank)
standing_first base p pieces stands.Doubtful (Some sort.Blank) = type_first _ Plain p (Some sort.Blank)
standing_first base p pieces stands.Absolute (Some sort.Literal) = type_first _ Plain p (Some sort.Literal)
standing_first base p pieces stands.Relative (Some sort.Literal) = type_first _ Plain p (Some sort.Literal)
standing_first base p pieces stands.Doubtful (Some sort.Literal) = type_first _ Plain p (Some sort.Literal)

onto_none : (p : Option Piece) (ps : Option (List Piece)) → (is_none p || is_none ps) ≡ is_none (with_first p ps)
onto_none None ps = refl
onto_none (Some p) None = refl
onto_none (Some p) (Some ps) = refl

unknown : (columns : List Column) (parts : List Part) → list_any (λ p. is_none (piece_of columns p)) parts ≡ is_none (pieces_of columns parts)
unknown columns [] = refl
unknown columns (p ∷ ps) = ap (λ b. is_none (piece_of columns p) || b) (unknown columns ps) ∙ onto_none (piece_of columns p) (pieces_of columns ps)

pieces_first : (role : Role) (p : Properties) (base : List ℕ) (stand : Standing) (pieces : Option (List Piece)) → FirstOf (before (is_none pieces) fault.UnknownColumn (before (is_doubtful (sort_of role (is_annotated p) p.types) stand) fault.DoubtfulTemplate (type_faults p (sort_of role (is_annotated p) p.types)))) (of_pieces role p base stand pieces)
pieces_first role p base stand None = refl
pieces_first role p base stand (Some pieces) = standing_first base p pieces stand (sort_of role (is_annotated p) p.types)

abbrev template_faults : Role → Properties → List Column → Option (List Part) → List TermMapFault
template_faults role p columns parts =
    before (names_unknown columns parts) fault.UnknownColumn
    (before (is_none parts) fault.BadTemplate
    (before (makes_doubtful (sort_of role (is_annotated p) p.types) parts) fault.DoubtfulTemplate
    (type_faults p (sort_of role (is_annotated p) p.types))))

template_first : (role : Role) (p : Properties) (columns : List Column) (base : List ℕ) (parts : Option (List Part)) → FirstOf (template_faults role p columns parts) (template_map role p columns base parts)
template_first role p columns base None = refl
template_first role p columns base (Some parts) =
    subst (λ b. FirstOf (before b fault.UnknownColumn (before (is_doubtful (sort_of role (is_annotated p) p.types) (standing parts)) fault.DoubtfulTemplate (type_faults p (sort_of role (is_annotated p) p.types)))) (of_pieces role p base (standing parts) (pieces_of columns parts)))
    (sym (unknown columns parts)) (pieces_first role p base (standing parts) (pieces_of columns parts))

kind_first : (role : Role) (p : Properties) (columns : List Column) (base : List ℕ) (k : Option Kind) → FirstOf (failing role p columns k) (of_kind role p columns base k)
kind_first role p columns base None = refl
kind_first role p columns base (Some (kind.Constant t)) = constant_first (is_wide_number t) t
kind_first role p columns base (Some (kind.Column text)) = column_first role p columns (column_of columns text)
kind_first role p columns base (Some (kind.Template text)) = template_first role p columns base (template_read text)

defined_first : (triples : List Triple) (columns : List Column) (base : List ℕ) (role : Role) (at : Place) → FirstOf (failing_checks triples columns role at) (term_map_of triples columns base role at)
defined_first triples columns base role (place.Constant t) = kind_first role no_properties columns base (constant role t)
defined_first triples columns base role (place.Node node) = kind_first role (properties triples node) columns base (kind_at triples role node)

answered : (faults : List TermMapFault) (defined : Result TermMap TermMapFault) (result : Result TermMap TermMapError) → FirstOf faults defined → Gives defined result → IsFirst faults result
answered faults defined (Ok map) f g = subst (FirstOf faults) g f
answered faults defined (Err (error.Fault e)) f g = subst (FirstOf faults) g f
answered faults defined (Err error.Memory) f g = tt

pub gives_first : (triples : List Triple) (columns : List Column) (base : List ℕ) (role : Role) (at : Place) (result : Result TermMap TermMapError) → Gives (term_map_of triples columns base role at) result → IsFirst (failing_checks triples columns role at) result
gives_first triples columns base role at result g = answered (failing_checks triples columns role at) (term_map_of triples columns base role at) result (defined_first triples columns base role at) g
