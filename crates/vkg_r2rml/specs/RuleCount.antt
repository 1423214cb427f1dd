-- How many quad rules a triples map has.
use Rattle.std.specs.Prelude.{ℕ, ◌*◌, ◌+◌, List, [], ◌++◌, length, sum_by}
use Rattle.vkg_maps.specs.declared.term_map.TermMap.{TermMap}
use Rattle.vkg_maps.specs.declared.mapping.TriplesMap.{TriplesMap}
use Rattle.vkg_maps.specs.declared.mapping.PredicateObjectMap.{PredicateObjectMap}
use Rattle.vkg_maps.specs.QuadRules.{targets}

-- R2RML, 6.3: one for each predicate, object and graph
abbrev pub rules_of_pair : List TermMap → PredicateObjectMap → ℕ
rules_of_pair graphs po = length po.predicates * length po.objects * length (targets (graphs ++ po.graphs))

abbrev pub rules_of_pairs : List TermMap → List PredicateObjectMap → ℕ
rules_of_pairs graphs pairs = sum_by (rules_of_pair graphs) pairs

-- R2RML, 6.2: one for each class and graph, and those of the predicate-object maps
abbrev pub rules_of_map : TriplesMap → ℕ
rules_of_map m = 1 * length m.classes * length (targets (m.graphs ++ [])) + rules_of_pairs m.graphs m.predicate_objects
