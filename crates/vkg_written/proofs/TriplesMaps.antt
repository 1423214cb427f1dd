-- A mapping that is read of a graph whose objects can be written has term maps that can be written.
use Rattle.std.proofs.Common.{◌≡◌, ℕ, ◌+◌, true, List, [], ◌∷◌, map, length, subst, codes, Option, Some, None, Result, Ok, Err, nat_lt}
use Rattle.std.specs.Prelude.{IfOk, IfSome, filter_map}
use Rattle.std.specs.List.{AllByRecursion, list_all}
use Rattle.std.specs.Result.{result_ok, result_err}
use Rattle.std.proofs.lemmas.Bool.{cond_both}
use Rattle.vkg_lists.specs.Places.{least_of}
use Rattle.vkg_lists.specs.Results.{unless, in_front}
use Rattle.vkg_lists.proofs.Each.{recursion_filter_map, recursion_map_weaken}
use Rattle.vkg_terms.specs.declared.term.Term.{Term}
use Rattle.vkg_terms.specs.declared.term.Term.TheVariants.{Iri, Blank, Lit}
use Rattle.vkg_terms.specs.Iri.{is_iri_character}
use Rattle.vkg_schema.specs.declared.table.Column.{Column}
use Rattle.vkg_schema.specs.declared.table.Table.{Table}
use Rattle.vkg_maps.specs.declared.mapping.Mapping.{Mapping}
use Rattle.vkg_maps.specs.declared.mapping.TriplesMap.{TriplesMap}
use Rattle.vkg_maps.specs.declared.term_map.TermMap.{TermMap}
use Rattle.vkg_maps.specs.QuadRules.{quad_rules, rule_limit}
use Rattle.vkg_maps.specs.Writable.{HoldsWritable, IsWritableMap, IsWritableObject, IsWritablePair, IsWritableTriplesMap}
use Rattle.vkg_turtle.specs.declared.triple.Triple.{Triple}
use Rattle.vkg_term_maps.specs.declared.error.TermMapFault.{TermMapFault}
use Rattle.vkg_term_maps.specs.declared.place.Place.{Place}
use Rattle.vkg_term_maps.specs.declared.place.Place.TheVariants.{Constant, Node}
use Rattle.vkg_term_maps.specs.declared.place.Role.{Role}
use Rattle.vkg_term_maps.specs.declared.place.Role.TheVariants.{Subject, Predicate, Object, Graph}
use Rattle.vkg_term_maps.specs.Graph.{objects, places}
use Rattle.vkg_term_maps.specs.TermMaps.{term_map_of}
use Rattle.vkg_term_maps.specs.Vocabulary.{rr}
use Rattle.vkg_r2rml.specs.declared.map_error.MapFault.{MapFault}
use Rattle.vkg_r2rml.specs.declared.map_node.MapNode.{MapNode}
use Rattle.vkg_r2rml.specs.Checked.{Checked, both, all_of, and_then, at_least_one, exactly_one, numbered, resource}
use Rattle.vkg_r2rml.specs.Mapping.{count_fault, fault, in_order, mapping_of, of_maps}
use Rattle.vkg_r2rml.specs.ReferencingMap.{columns_of, no_term_map, parent_of, reference}
use Rattle.vkg_r2rml.specs.TriplesMap.{as_object, assembled, class, classes, classes_and_graphs, graph_maps, object_at_node, object_map, object_maps, objects_of, pair, pair_at, predicate_object_map, predicate_object_maps, predicates, subject, subject_at, term_map, term_maps, triples_map, triples_map_over}
use Rattle.vkg_r2rml.specs.TriplesMaps.{triples_maps}
use Rattle.vkg_written.specs.Mappings.{HoldsWritableValues, IsWritableValue, ReadIsWritable}
use Rattle.vkg_written.proofs.TermMaps.{FinePlace, objects_fine, places_fine, term_map_fine}

-- ---- parts that checks make

module _ {A B : Type 0} (P : A → Type 0) (Q : B → Type 0) where
  both_fine : (a : Checked A) (b : Checked B) → IfOk a P → IfOk b Q → IfOk (both a b) (λ p. P p.0 × Q p.1)
  both_fine (Ok a) (Ok b) h k = (h, k)
  both_fine (Ok a) (Err d) h k = tt
  both_fine (Err c) (Ok b) h k = tt
  both_fine (Err c) (Err d) h k = tt

  then_fine : (a : Checked A) (next : A → Checked B) → IfOk a P → ((x : A) → P x → IfOk (next x) Q) → IfOk (and_then a next) Q
  then_fine (Ok a) next h k = k a h
  then_fine (Err c) next h k = tt

  all_fine : (f : A → Checked B) → ((x : A) → P x → IfOk (f x) Q) → (xs : List A) → AllByRecursion P xs → IfOk (all_of (map f xs)) (AllByRecursion Q)
  all_fine f g xs h = of (least_of result_err (map f xs))
      (recursion_filter_map (λ (c : Checked B). IfOk c Q) Q result_ok value (map f xs) (recursion_map_weaken P (λ (c : Checked B). IfOk c Q) f g xs h))
    where
      value : (c : Checked B) → IfOk c Q → IfSome (result_ok c) Q
      value (Ok b) k = k
      value (Err c) k = tt

      of : (o : Option ℕ) → AllByRecursion Q (filter_map result_ok (map f xs)) → IfOk (unless o (Ok (filter_map result_ok (map f xs)))) (AllByRecursion Q)
      of None k = k
      of (Some c) k = tt

module _ {A : Type 0} where
  any_fine : (a : Checked A) → IfOk a (λ _. Unit {0})
  any_fine (Ok a) = tt
  any_fine (Err c) = tt

  one_fine : (P : A → Type 0) (check : ℕ) (xs : List A) → AllByRecursion P xs → IfOk (exactly_one check xs) P
  one_fine P check [] h = tt
  one_fine P check (x ∷ []) h = h.0
  one_fine P check (x ∷ y ∷ xs) h = tt

  some_fine : (P : A → Type 0) (check : ℕ) (xs : List A) → AllByRecursion P xs → IfOk (at_least_one check xs) (AllByRecursion P)
  some_fine P check [] h = tt
  some_fine P check (x ∷ xs) h = h

  numbered_fine : (P : A → Type 0) (r : Result A TermMapFault) → IfOk r P → IfOk (numbered r) P
  numbered_fine P (Ok a) h = h
  numbered_fine P (Err f) h = tt

-- ---- triples maps

abbrev AllIri : List ℕ → Type 0
AllIri text = list_all is_iri_character text ≡ true

class_fine : (t : Term) → IsWritableValue t → IfOk (class t) AllIri
class_fine (Iri iri) w = w
class_fine (Blank label) w = tt
class_fine (Lit text a) w = tt

abbrev FineMaps : List TermMap → Type 0
FineMaps ts = AllByRecursion IsWritableMap ts

abbrev FinePlaces : List Place → Type 0
FinePlaces ps = AllByRecursion FinePlace ps

abbrev FineExtras : List (List ℕ) × List TermMap → Type 0
FineExtras e = AllByRecursion AllIri e.0 × FineMaps e.1

abbrev FineSubject : TermMap × (List (List ℕ) × List TermMap) → Type 0
FineSubject s = IsWritableMap s.0 × FineExtras s.1

abbrev Whatever : {A : Type 0} → A → Type 0
Whatever a = Unit {0}

module _ (triples : List Triple) (schema : List Table) (base : List ℕ) (fine : HoldsWritableValues triples) where
  module _ (columns : List Column) where
    map_at : (role : Role) (p : Place) → FinePlace p → IfOk (term_map triples columns base role p) IsWritableMap
    map_at role p h = numbered_fine IsWritableMap (term_map_of triples columns base role p) (term_map_fine triples fine columns base role p h)

    maps_at : (role : Role) (ps : List Place) → FinePlaces ps → IfOk (term_maps triples columns base role ps) FineMaps
    maps_at role ps h = all_fine FinePlace IsWritableMap (term_map triples columns base role) (map_at role) ps h

    graphs_at : (node : Term) → IfOk (graph_maps triples columns base node) FineMaps
    graphs_at node = maps_at Graph (places triples node Graph) (places_fine triples fine node Graph)

    classes_at : (node : Term) → IfOk (classes triples node) (AllByRecursion AllIri)
    classes_at node = all_fine IsWritableValue AllIri class class_fine (objects triples node (rr (codes "class"))) (objects_fine triples fine node (rr (codes "class")))

    extras_at : (p : Place) → IfOk (classes_and_graphs triples columns base p) FineExtras
    extras_at (Constant t) = (tt, tt)
    extras_at (Node node) = both_fine (AllByRecursion AllIri) FineMaps (classes triples node) (graph_maps triples columns base node) (classes_at node) (graphs_at node)

    subject_of : (m : Term) → IfOk (subject triples columns base m) FineSubject
    subject_of m =
        then_fine FinePlace FineSubject (exactly_one 10 (places triples m Subject)) (subject_at triples columns base) (one_fine FinePlace 10 (places triples m Subject) (places_fine triples fine m Subject))
        (λ p h. both_fine IsWritableMap FineExtras (term_map triples columns base Subject p) (classes_and_graphs triples columns base p) (map_at Subject p h) (extras_at p))

    predicates_of : (node : Term) → IfOk (predicates triples columns base node) FineMaps
    predicates_of node =
        then_fine FinePlaces FineMaps (at_least_one 17 (places triples node Predicate)) (term_maps triples columns base Predicate) (some_fine FinePlace 17 (places triples node Predicate) (places_fine triples fine node Predicate))
        (maps_at Predicate)

  module _ (nodes : List MapNode) (table : ℕ) where
    as_term : (p : Place) → FinePlace p → IfOk (and_then (term_map triples (columns_of schema table) base Object p) as_object) IsWritableObject
    as_term p h = then_fine IsWritableMap IsWritableObject (term_map triples (columns_of schema table) base Object p) as_object (map_at (columns_of schema table) Object p h) (λ t w. w)

    at_node : (node : Term) (parents : List Term) → IfOk (object_at_node triples schema base nodes table node parents) IsWritableObject
    at_node node [] = as_term (Node node) tt
    at_node node (p ∷ ps) =
        then_fine Whatever IsWritableObject (both (no_term_map triples node) (reference triples schema nodes table (parent_of nodes (p ∷ ps)) (objects triples node (rr (codes "joinCondition"))))) _
        (any_fine _) (λ made _. tt)

    object_at : (p : Place) → FinePlace p → IfOk (object_map triples schema base nodes table p) IsWritableObject
    object_at (Constant t) h = as_term (Constant t) h
    object_at (Node node) h = at_node node (objects triples node (rr (codes "parentTriplesMap")))

    objects_at : (node : Term) → IfOk (objects_of triples schema base nodes table node) (AllByRecursion IsWritableObject)
    objects_at node =
        then_fine FinePlaces (AllByRecursion IsWritableObject) (at_least_one 17 (places triples node Object)) (object_maps triples schema base nodes table) (some_fine FinePlace 17 (places triples node Object) (places_fine triples fine node Object))
        (λ ps h. all_fine FinePlace IsWritableObject (object_map triples schema base nodes table) object_at ps h)

    pair_of_node : (node : Term) → IfOk (pair_at triples schema base nodes table node) IsWritablePair
    pair_of_node node =
        let columns = columns_of schema table in
        let ps = predicates triples columns base node in
        let os = objects_of triples schema base nodes table node in
        let gs = graph_maps triples columns base node in
        then_fine (λ made. FineMaps made.0 × (AllByRecursion IsWritableObject made.1.0 × FineMaps made.1.1)) IsWritablePair (both ps (both os gs)) pair
        (both_fine FineMaps (λ made. AllByRecursion IsWritableObject made.0 × FineMaps made.1) ps (both os gs) (predicates_of columns node)
        (both_fine (AllByRecursion IsWritableObject) FineMaps os gs (objects_at node) (graphs_at columns node)))
        (λ made w. record { predicates = w.0; objects = w.1.0; graphs = w.1.1 })

    pair_of : (t : Term) → IfOk (predicate_object_map triples schema base nodes table t) IsWritablePair
    pair_of t = then_fine Whatever IsWritablePair (resource 17 t) (pair_at triples schema base nodes table) (any_fine (resource 17 t)) (λ n _. pair_of_node n)

    pairs_of : (m : Term) → IfOk (predicate_object_maps triples schema base nodes table m) (AllByRecursion IsWritablePair)
    pairs_of m =
        let property = rr (codes "predicateObjectMap") in
        all_fine IsWritableValue IsWritablePair (predicate_object_map triples schema base nodes table) (λ t _. pair_of t) (objects triples m property) (objects_fine triples fine m property)

    map_over : (m : Term) → IfOk (triples_map_over triples schema base nodes m table) IsWritableTriplesMap
    map_over m =
        let subjects = subject triples (columns_of schema table) base m in
        let pairs = predicate_object_maps triples schema base nodes table m in
        then_fine (λ made. FineSubject made.0 × AllByRecursion IsWritablePair made.1) IsWritableTriplesMap (both subjects pairs) (assembled table)
        (both_fine FineSubject (AllByRecursion IsWritablePair) subjects pairs (subject_of (columns_of schema table) m) (pairs_of m))
        (λ made w. record { subject = w.0.0; classes = w.0.1.0; graphs = w.0.1.1; predicate_objects = w.1 })

  module _ (nodes : List MapNode) where
    map_of : (n : MapNode) → IfOk (triples_map triples schema base nodes n) IsWritableTriplesMap
    map_of n = then_fine Whatever IsWritableTriplesMap n.table (triples_map_over triples schema base nodes n.node) (any_fine n.table) (λ t _. map_over nodes t n.node)

    front_fine : (m : TriplesMap) → IsWritableTriplesMap m → (r : Result (List TriplesMap) MapFault) → IfOk r (AllByRecursion IsWritableTriplesMap) → IfOk (in_front m r) (AllByRecursion IsWritableTriplesMap)
    front_fine m w (Ok ms) h = (w, h)
    front_fine m w (Err f) h = tt

    all_in_order : (place : ℕ) (ns : List MapNode) → IfOk (in_order place (map (triples_map triples schema base nodes) ns)) (AllByRecursion IsWritableTriplesMap)
    all_in_order place [] = tt
    all_in_order place (n ∷ ns) = of (triples_map triples schema base nodes n) (map_of n) (all_in_order (place + 1) ns)
      where
        of : (c : Checked TriplesMap) → IfOk c IsWritableTriplesMap → IfOk (in_order (place + 1) (map (triples_map triples schema base nodes) ns)) (AllByRecursion IsWritableTriplesMap)
            → IfOk (in_order place (c ∷ map (triples_map triples schema base nodes) ns)) (AllByRecursion IsWritableTriplesMap)
        of (Ok m) w rest = front_fine m w _ rest
        of (Err check) w rest = tt

  of_maps_fine : (r : Result (List TriplesMap) MapFault) → IfOk r (AllByRecursion IsWritableTriplesMap) → IfOk (of_maps base r) HoldsWritable
  of_maps_fine (Err f) h = tt
  of_maps_fine (Ok ms) h =
      let mapping : Mapping = record { base = base; maps = ms } in
      cond_both (nat_lt rule_limit (length (quad_rules mapping))) (Err (fault 22 0)) (Ok mapping) (λ r. IfOk r HoldsWritable) (λ _. tt) (λ _. h)

  mapping_fine : IfOk (mapping_of triples schema base) HoldsWritable
  mapping_fine =
      let nodes = triples_maps triples schema in
      of (count_fault nodes) (of_maps base (in_order 1 (map (triples_map triples schema base nodes) nodes))) (of_maps_fine _ (all_in_order nodes 1 nodes))
    where
      of : (o : Option MapFault) (r : Result Mapping MapFault) → IfOk r HoldsWritable → IfOk (unless o r) HoldsWritable
      of None r h = h
      of (Some f) r h = tt

pub read_is_writable : (triples : List Triple) (schema : List Table) (base : List ℕ) (mapping : Mapping) → ReadIsWritable triples schema base mapping
read_is_writable triples schema base mapping fine e = subst (λ r. IfOk r HoldsWritable) e (mapping_fine triples schema base fine)
