-- How many quad rules a mapping has.
use Rattle.std.proofs.Common.{◌≡◌, ℕ, suc, ◌+◌, ◌*◌, max, refl, ◌∙◌, ap, List, [], ◌∷◌, ◌++◌, map, flat_map, length, arith, length-append}
use Rattle.std.specs.Prelude.{sum_by, Option, Some}
use Rattle.std.proofs.lemmas.List.{length-map}
use Rattle.std.proofs.lemmas.List.Concat.{length-flat_map}
use Rattle.vkg_lists.proofs.Walks.{each_as_many}
use Rattle.vkg_terms.specs.declared.term.Term.TheVariants.{Iri}
use Rattle.vkg_maps.specs.declared.term_map.TermMap.{TermMap}
use Rattle.vkg_maps.specs.declared.mapping.TriplesMap.{TriplesMap}
use Rattle.vkg_maps.specs.declared.mapping.PredicateObjectMap.{PredicateObjectMap}
use Rattle.vkg_maps.specs.declared.mapping.ObjectMap.TheVariants as object
use Rattle.vkg_maps.specs.declared.term_map.TermMap.TheVariants.{Constant}
use Rattle.vkg_maps.specs.declared.mapping.Mapping.{Mapping}
use Rattle.vkg_maps.specs.QuadRules.{targets, object_rule, predicate_object_rules, map_rules, class_map, quad_rules}
use Rattle.vkg_r2rml.specs.RuleCount.{rules_of_pair, rules_of_pairs, rules_of_map}

-- a graph map each, or the default graph
pub target_count : (gs : List TermMap) → length (targets gs) ≡ max (length gs) 1
target_count [] = refl
target_count (g ∷ gs) = ap suc (length-map {A = TermMap} {B = Option TermMap} gs (λ g. Some g)) ∙ omega arith

module _ (maps : List TriplesMap) (m : TriplesMap) where
  pub pair_count : (po : PredicateObjectMap) → length (predicate_object_rules maps m po) ≡ rules_of_pair m.graphs po
  pair_count po =
      let t = length (targets (m.graphs ++ po.graphs)) in
      each_as_many (λ p. flat_map (λ o. map (object_rule maps m p o) (targets (m.graphs ++ po.graphs))) po.objects) (length po.objects * t) po.predicates
      (λ p. each_as_many (λ o. map (object_rule maps m p o) (targets (m.graphs ++ po.graphs))) t po.objects (λ o. length-map (targets (m.graphs ++ po.graphs)) (object_rule maps m p o)))
      ∙ regroup (length po.predicates) (length po.objects) t
    where
      regroup : (a b c : ℕ) → a * (b * c) ≡ a * b * c
      regroup a b c = omega arith

  pub pairs_count : (pos : List PredicateObjectMap) → length (flat_map (predicate_object_rules maps m) pos) ≡ rules_of_pairs m.graphs pos
  pairs_count pos = length-flat_map (predicate_object_rules maps m) pos ∙ (λ i. sum_by (λ po. pair_count po i) pos)

  pub map_count : length (map_rules maps m) ≡ rules_of_map m
  map_count =
      length-append (predicate_object_rules maps m (class_map m)) (flat_map (predicate_object_rules maps m) m.predicate_objects)
      ∙ ap (λ n. n + length (flat_map (predicate_object_rules maps m) m.predicate_objects)) (pair_count (class_map m) ∙ ap (λ n. 1 * n * length (targets (m.graphs ++ []))) (length-map m.classes (λ class. object.Term (Constant (Iri class)))))
      ∙ ap (λ n. 1 * length m.classes * length (targets (m.graphs ++ [])) + n) (pairs_count m.predicate_objects)

pub rule_count : (mapping : Mapping) → length (quad_rules mapping) ≡ sum_by rules_of_map mapping.maps
rule_count mapping = length-flat_map (map_rules mapping.maps) mapping.maps ∙ (λ i. sum_by (λ m. map_count mapping.maps m i) mapping.maps)
