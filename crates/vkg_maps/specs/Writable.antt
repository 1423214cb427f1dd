-- Mappings each of whose quads can be written (RDF 1.1 N-Quads, 4), whatever the rows hold.
use Rattle.std.specs.Prelude.{◌≡◌, List, [], Option, IfSome, IsUtf8, true}
use Rattle.std.specs.List.{AllByRecursion, list_all}
use Rattle.vkg_terms.specs.Iri.{is_iri_character}
use Rattle.vkg_terms.specs.Writable.{IsWritable, IsWritableAnnotation}
use Rattle.vkg_maps.specs.declared.term_map.TermMap.{TermMap}
use Rattle.vkg_maps.specs.declared.term_map.TermMap.TheVariants as from
use Rattle.vkg_maps.specs.declared.term_map.Piece.{Piece}
use Rattle.vkg_maps.specs.declared.term_map.Piece.TheVariants as piece
use Rattle.vkg_maps.specs.declared.term_map.TermType.{TermType}
use Rattle.vkg_maps.specs.declared.term_map.TermType.TheVariants as sort
use Rattle.vkg_maps.specs.declared.mapping.Mapping.{Mapping}
use Rattle.vkg_maps.specs.declared.mapping.TriplesMap.{TriplesMap}
use Rattle.vkg_maps.specs.declared.mapping.PredicateObjectMap.{PredicateObjectMap}
use Rattle.vkg_maps.specs.declared.mapping.ObjectMap.{ObjectMap}
use Rattle.vkg_maps.specs.declared.mapping.ObjectMap.TheVariants as object
use Rattle.vkg_maps.specs.declared.quad_rule.QuadRule.{QuadRule}

-- the fixed text of a template is a text
abbrev pub IsTextPiece : Piece → Type 0
IsTextPiece (piece.Fixed text) = IsUtf8 text
IsTextPiece (piece.Column column) = Unit {0}

-- R2RML, 11.2: an IRI is made only where it is absolute, and a label is of hex digits; a literal has what the map gives it
abbrev pub IsWritableType : List Piece → TermType → Type 0
IsWritableType pieces sort.Iri = Unit {0}
IsWritableType pieces sort.Blank = Unit {0}
IsWritableType pieces (sort.Literal annotation) = AllByRecursion IsTextPiece pieces × IsWritableAnnotation annotation

-- R2RML, 7: a constant can be written, and so can a datatype or a language tag
abbrev pub IsWritableMap : TermMap → Type 0
IsWritableMap (from.Constant term) = IsWritable term
IsWritableMap (from.Column column type) = IsWritableType [] type
IsWritableMap (from.Template pieces type) = IsWritableType pieces type

abbrev pub IsWritableMapIfAny : Option TermMap → Type 0
IsWritableMapIfAny o = IfSome o IsWritableMap

-- R2RML, 8: a referencing object map makes what its parent's subject map makes
abbrev pub IsWritableObject : ObjectMap → Type 0
IsWritableObject (object.Term t) = IsWritableMap t
IsWritableObject (object.Parent parent conditions) = Unit {0}

pub record IsWritablePair (po : PredicateObjectMap) : Type 0 where
  pub predicates : AllByRecursion IsWritableMap po.predicates
  pub objects : AllByRecursion IsWritableObject po.objects
  pub graphs : AllByRecursion IsWritableMap po.graphs

pub record IsWritableTriplesMap (m : TriplesMap) : Type 0 where
  pub subject : IsWritableMap m.subject
  pub classes : AllByRecursion (λ class. list_all is_iri_character class ≡ true) m.classes
  pub graphs : AllByRecursion IsWritableMap m.graphs
  pub predicate_objects : AllByRecursion IsWritablePair m.predicate_objects

-- each term map of the mapping
abbrev pub HoldsWritable : Mapping → Type 0
HoldsWritable mapping = AllByRecursion IsWritableTriplesMap mapping.maps

-- each term map of a rule
pub record IsWritableRule (rule : QuadRule) : Type 0 where
  pub subject : IsWritableMap rule.subject
  pub predicate : IsWritableMap rule.predicate
  pub object : IsWritableMap rule.object
  pub graph : IsWritableMapIfAny rule.graph
