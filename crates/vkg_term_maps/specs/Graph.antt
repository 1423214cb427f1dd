-- The triples of a mapping graph (R2RML, 4.1), by their subjects and properties.
use Rattle.std.specs.Prelude.{ℕ, ◌&&◌, List, filter_map, Option, Some, None, if◌then◌else◌}
use Rattle.vkg_terms.specs.declared.term.Term.{Term}
use Rattle.vkg_terms.specs.declared.term.Term.TheVariants.{Iri}
use Rattle.vkg_terms.specs.Same.{term_eq}
use Rattle.vkg_turtle.specs.declared.triple.Triple.{Triple}
use Rattle.vkg_term_maps.specs.declared.place.Role.{Role}
use Rattle.vkg_term_maps.specs.declared.place.Place.{Place}
use Rattle.vkg_term_maps.specs.declared.place.Place.TheVariants.{Constant, Node}
use Rattle.vkg_term_maps.specs.Vocabulary.{shortcut, map_property}

abbrev pub object_if : Term → List ℕ → Triple → Option Term
object_if node property t = if term_eq node t.subject && term_eq t.predicate (Iri property) then Some t.object else None

-- the objects of the triples with this subject and this property, in their order
abbrev pub objects : List Triple → Term → List ℕ → List Term
objects triples node property = filter_map (object_if node property) triples

abbrev pub place_of : Role → Triple → Option Place
place_of role t =
    if term_eq t.predicate (Iri (shortcut role)) then Some (Constant t.object)
    else if term_eq t.predicate (Iri (map_property role)) then Some (Node t.object)
    else None

abbrev pub place_if : Term → Role → Triple → Option Place
place_if node role t = if term_eq node t.subject then place_of role t else None

-- R2RML, 6 and 7.1: where the term maps of a node stand, in the order of the triples that name them
abbrev pub places : List Triple → Term → Role → List Place
places triples node role = filter_map (place_if node role) triples
