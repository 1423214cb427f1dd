-- A triples map as it is read from a mapping graph (R2RML, 6).
use Rattle.std.specs.Prelude.{ℕ, List, [], ◌∷◌, codes, map, Ok, Err}
use Rattle.vkg_terms.specs.declared.term.Term.{Term}
use Rattle.vkg_terms.specs.declared.term.Term.TheVariants.{Iri}
use Rattle.vkg_turtle.specs.declared.triple.Triple.{Triple}
use Rattle.vkg_schema.specs.declared.table.Table.{Table}
use Rattle.vkg_schema.specs.declared.table.Column.{Column}
use Rattle.vkg_maps.specs.declared.term_map.TermMap.{TermMap}
use Rattle.vkg_maps.specs.declared.mapping.TriplesMap.{TriplesMap}
use Rattle.vkg_maps.specs.declared.mapping.PredicateObjectMap.{PredicateObjectMap}
use Rattle.vkg_maps.specs.declared.mapping.ObjectMap.{ObjectMap}
use Rattle.vkg_maps.specs.declared.mapping.ObjectMap.TheVariants as object
use Rattle.vkg_term_maps.specs.declared.place.Role.{Role}
use Rattle.vkg_term_maps.specs.declared.place.Role.TheVariants.{Subject, Predicate, Object, Graph}
use Rattle.vkg_term_maps.specs.declared.place.Place.{Place}
use Rattle.vkg_term_maps.specs.declared.place.Place.TheVariants.{Constant, Node}
use Rattle.vkg_term_maps.specs.Vocabulary.{rr}
use Rattle.vkg_term_maps.specs.Graph.{objects, places}
use Rattle.vkg_term_maps.specs.TermMaps.{term_map_of}
use Rattle.vkg_r2rml.specs.declared.map_node.MapNode.{MapNode}
use Rattle.vkg_r2rml.specs.Checked.{Checked, both, all_of, and_then, exactly_one, at_least_one, resource, numbered}
use Rattle.vkg_r2rml.specs.ReferencingMap.{columns_of, referencing_map}

-- R2RML, 7
abbrev pub term_map : List Triple → List Column → List ℕ → Role → Place → Checked TermMap
term_map triples columns base role place = numbered (term_map_of triples columns base role place)

abbrev pub term_maps : List Triple → List Column → List ℕ → Role → List Place → Checked (List TermMap)
term_maps triples columns base role found = all_of (map (term_map triples columns base role) found)

-- R2RML, 9: any number of graph maps
abbrev pub graph_maps : List Triple → List Column → List ℕ → Term → Checked (List TermMap)
graph_maps triples columns base node = term_maps triples columns base Graph (places triples node Graph)

-- R2RML, 6.2: a class is an IRI
abbrev pub class : Term → Checked (List ℕ)
class (Iri iri) = Ok iri
class t = Err 11

abbrev pub classes : List Triple → Term → Checked (List (List ℕ))
classes triples node = all_of (map class (objects triples node (rr (codes "class"))))

-- R2RML, 6.1, 6.2 and 9: classes and graph maps stand on the node of a subject map; a constant has none
abbrev pub classes_and_graphs : List Triple → List Column → List ℕ → Place → Checked (List (List ℕ) × List TermMap)
classes_and_graphs triples columns base (Constant t) = Ok ([], [])
classes_and_graphs triples columns base (Node node) = both (classes triples node) (graph_maps triples columns base node)

abbrev pub subject_at : List Triple → List Column → List ℕ → Place → Checked (TermMap × (List (List ℕ) × List TermMap))
subject_at triples columns base place = both (term_map triples columns base Subject place) (classes_and_graphs triples columns base place)

-- R2RML, 6.1: exactly one subject map
abbrev pub subject : List Triple → List Column → List ℕ → Term → Checked (TermMap × (List (List ℕ) × List TermMap))
subject triples columns base m = and_then (exactly_one 10 (places triples m Subject)) (subject_at triples columns base)

-- R2RML, 6.3: at least one predicate map
abbrev pub predicates : List Triple → List Column → List ℕ → Term → Checked (List TermMap)
predicates triples columns base node = and_then (at_least_one 17 (places triples node Predicate)) (term_maps triples columns base Predicate)

abbrev pub as_object : TermMap → Checked ObjectMap
as_object t = Ok (object.Term t)

-- R2RML, 8: a node with a parent is a referencing object map, every other one a term map
abbrev pub object_at_node : List Triple → List Table → List ℕ → List MapNode → ℕ → Term → List Term → Checked ObjectMap
object_at_node triples schema base maps table node [] = and_then (term_map triples (columns_of schema table) base Object (Node node)) as_object
object_at_node triples schema base maps table node (p ∷ ps) = referencing_map triples schema maps table node (p ∷ ps)

abbrev pub object_map : List Triple → List Table → List ℕ → List MapNode → ℕ → Place → Checked ObjectMap
object_map triples schema base maps table (Constant t) = and_then (term_map triples (columns_of schema table) base Object (Constant t)) as_object
object_map triples schema base maps table (Node node) =
    object_at_node triples schema base maps table node (objects triples node (rr (codes "parentTriplesMap")))

-- R2RML, 6.3: at least one object map
abbrev pub object_maps : List Triple → List Table → List ℕ → List MapNode → ℕ → List Place → Checked (List ObjectMap)
object_maps triples schema base maps table found = all_of (map (object_map triples schema base maps table) found)

abbrev pub objects_of : List Triple → List Table → List ℕ → List MapNode → ℕ → Term → Checked (List ObjectMap)
objects_of triples schema base maps table node = and_then (at_least_one 17 (places triples node Object)) (object_maps triples schema base maps table)

abbrev pub pair : (List TermMap × (List ObjectMap × List TermMap)) → Checked PredicateObjectMap
pair made = Ok (record { predicates = made.0; objects = made.1.0; graphs = made.1.1 })

abbrev pub pair_at : List Triple → List Table → List ℕ → List MapNode → ℕ → Term → Checked PredicateObjectMap
pair_at triples schema base maps table node =
    and_then
    (both (predicates triples (columns_of schema table) base node)
    (both (objects_of triples schema base maps table node) (graph_maps triples (columns_of schema table) base node)))
    pair

-- R2RML, 6.3: a predicate-object map
abbrev pub predicate_object_map : List Triple → List Table → List ℕ → List MapNode → ℕ → Term → Checked PredicateObjectMap
predicate_object_map triples schema base maps table t = and_then (resource 17 t) (pair_at triples schema base maps table)

abbrev pub predicate_object_maps : List Triple → List Table → List ℕ → List MapNode → ℕ → Term → Checked (List PredicateObjectMap)
predicate_object_maps triples schema base maps table m =
    all_of (map (predicate_object_map triples schema base maps table) (objects triples m (rr (codes "predicateObjectMap"))))

abbrev pub assembled : ℕ → ((TermMap × (List (List ℕ) × List TermMap)) × List PredicateObjectMap) → Checked TriplesMap
assembled table made = Ok (record { table = table; subject = made.0.0; classes = made.0.1.0; graphs = made.0.1.1; predicate_objects = made.1 })

-- over a table that is known
abbrev pub triples_map_over : List Triple → List Table → List ℕ → List MapNode → Term → ℕ → Checked TriplesMap
triples_map_over triples schema base maps m table =
    and_then (both (subject triples (columns_of schema table) base m) (predicate_object_maps triples schema base maps table m)) (assembled table)

-- R2RML, 6: a triples map
abbrev pub triples_map : List Triple → List Table → List ℕ → List MapNode → MapNode → Checked TriplesMap
triples_map triples schema base maps m = and_then m.table (triples_map_over triples schema base maps m.node)
