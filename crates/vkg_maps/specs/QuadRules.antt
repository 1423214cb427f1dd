-- The quad rules of a mapping: one for each class and graph, and one for each predicate, object and graph.
use Rattle.std.specs.Prelude.{ℕ, List, [], ◌∷◌, ◌++◌, flat_map, map, Option, Some, None, slice_get, unwrap_or}
use Rattle.vkg_terms.specs.declared.term.Term.TheVariants.{Iri}
use Rattle.vkg_terms.specs.Vocabulary.{rdf_type}
use Rattle.vkg_maps.specs.declared.term_map.TermMap.{TermMap}
use Rattle.vkg_maps.specs.declared.term_map.TermMap.TheVariants.{Constant}
use Rattle.vkg_maps.specs.declared.mapping.Mapping.{Mapping}
use Rattle.vkg_maps.specs.declared.mapping.TriplesMap.{TriplesMap}
use Rattle.vkg_maps.specs.declared.mapping.PredicateObjectMap.{PredicateObjectMap}
use Rattle.vkg_maps.specs.declared.mapping.ObjectMap.{ObjectMap}
use Rattle.vkg_maps.specs.declared.mapping.ObjectMap.TheVariants as object
use Rattle.vkg_maps.specs.declared.quad_rule.QuadRule.{QuadRule}
use Rattle.vkg_maps.specs.declared.quad_rule.Join.{Join}

-- own: a mapping has at most so many quad rules
abbrev pub rule_limit : ℕ
rule_limit = 4096

-- R2RML, 11.1, target graphs: each graph map, and the default graph where there is none
abbrev pub targets : List TermMap → List (Option TermMap)
targets [] = None ∷ []
targets (g ∷ gs) = map Some (g ∷ gs)

-- the triples map that a referencing object map names
abbrev pub parent_of : List TriplesMap → TriplesMap → ℕ → TriplesMap
parent_of maps m k = unwrap_or (slice_get maps k) m

-- R2RML, 8: the join of a referencing object map; without a condition there is none
abbrev pub join_on : ℕ → List (ℕ × ℕ) → Option Join
join_on table [] = None
join_on table (c ∷ cs) = Some (record { table = table; conditions = c ∷ cs })

-- R2RML, 8: a referencing object map makes its parent's subject
abbrev pub object_rule : List TriplesMap → TriplesMap → TermMap → ObjectMap → Option TermMap → QuadRule
object_rule maps m p (object.Term t) g = record { table = m.table; join = None; subject = m.subject; predicate = p; object = t; graph = g }
object_rule maps m p (object.Parent k conditions) g = record {
  table = m.table;
  join = join_on (parent_of maps m k).table conditions;
  subject = m.subject;
  predicate = p;
  object = (parent_of maps m k).subject;
  graph = g;
}

-- R2RML, 6.3: each predicate with each object, in the graphs of both maps
abbrev pub predicate_object_rules : List TriplesMap → TriplesMap → PredicateObjectMap → List QuadRule
predicate_object_rules maps m po =
    flat_map (λ p. flat_map (λ o. map (object_rule maps m p o) (targets (m.graphs ++ po.graphs))) po.objects) po.predicates

-- R2RML, 6.2: the classes are objects of rdf:type, in the subject map's graphs
abbrev pub class_map : TriplesMap → PredicateObjectMap
class_map m = record { predicates = Constant (Iri rdf_type) ∷ []; objects = map (λ class. object.Term (Constant (Iri class))) m.classes; graphs = [] }

abbrev pub map_rules : List TriplesMap → TriplesMap → List QuadRule
map_rules maps m = flat_map (predicate_object_rules maps m) (class_map m ∷ m.predicate_objects)

-- R2RML, 11.1, the generated RDF triples of a triples map, as rules
abbrev pub quad_rules : Mapping → List QuadRule
quad_rules mapping = flat_map (map_rules mapping.maps) mapping.maps
