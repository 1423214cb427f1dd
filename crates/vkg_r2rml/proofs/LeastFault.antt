-- The answer of a triples map is the least check that fails on it.
use Rattle.std.proofs.Common.{◌≡◌, ℕ, ◌⊎◌, inl, inr, ⊎_elim, refl, List, [], ◌∷◌, map, Option, Some, arith}
use Rattle.vkg_lists.proofs.Members.{Contains-none}
use Rattle.vkg_terms.specs.declared.term.Term.{Term}
use Rattle.vkg_turtle.specs.declared.triple.Triple.{Triple}
use Rattle.vkg_schema.specs.declared.table.Table.{Table}
use Rattle.vkg_schema.specs.declared.table.Column.{Column}
use Rattle.std.specs.Prelude.{codes}
use Rattle.vkg_maps.specs.declared.mapping.ObjectMap.TheVariants as object
use Rattle.vkg_term_maps.specs.declared.place.Role.{Role}
use Rattle.vkg_term_maps.specs.declared.place.Role.TheVariants.{Subject, Predicate, Object, Graph}
use Rattle.vkg_term_maps.specs.declared.place.Place.{Place}
use Rattle.vkg_term_maps.specs.declared.place.Place.TheVariants.{Constant, Node}
use Rattle.vkg_term_maps.specs.Vocabulary.{rr}
use Rattle.vkg_term_maps.specs.Graph.{objects, places}
use Rattle.vkg_r2rml.specs.declared.map_node.MapNode.{MapNode}
use Rattle.vkg_r2rml.specs.Checked.{Checked, both, all_of, and_then, exactly_one, at_least_one, resource}
use Rattle.vkg_r2rml.specs.ReferencingMap.{no_term_map, parent_of, table_of_parent, columns_of, column_if_known, side, comparable, same_table, condition, conditions, referencing_map}
use Rattle.vkg_r2rml.specs.TriplesMap.{term_map, term_maps, graph_maps, class, classes, classes_and_graphs, subject_at, subject, predicates, object_at_node, object_map, objects_of, pair_at, predicate_object_map, predicate_object_maps, triples_map_over, triples_map}
use Rattle.vkg_r2rml.specs.Faults.{Fails, Among, OnTermMap, OnGraphMaps, OnClasses, OnSubjectNode, OnSubjectMap, OnSubject, OnPredicates, OnColumns, OnSide, OnCondition, OnConditions, OnReferencingMap, OnObjectNode, OnObjectMap, OnObjects, OnPair, OnPredicateObjectMap, OnParts, OnTriplesMap}
use Rattle.vkg_r2rml.proofs.Least.{AnswersLeast, alone, never, of_both, of_then, of_value, of_all}

-- at least one of several parts
of_some : {X A : Type 0} (P : X → ℕ → Type 0) (check : ℕ) (f : X → Checked A) (xs : List X) → ((x : X) → AnswersLeast (P x) (f x)) → AnswersLeast (λ c. Fails (at_least_one check xs) c ⊎ Among xs P c) (and_then (at_least_one check xs) (λ ys. all_of (map f ys)))
of_some P check f [] each = record {
  fails = λ c e. inl (cc);
  least = λ c h. ⊎_elim (λ e. (check, refl, let same : check ≡ c = cc in omega (arith, same))) (λ m. absurd (Contains-none m.0 m.1)) h;
}
of_some P check f (x ∷ xs) each =
    let all = of_all P f (x ∷ xs) (λ y m. each y) in
    record {
      fails = λ c e. inr (all.fails c e);
      least = λ c h. ⊎_elim (λ e. absurd (let no_fault : ⊥ = cc in no_fault)) (λ m. all.least c m) h;
    }

module _ (triples : List Triple) (columns : List Column) (base : List ℕ) where
  on_term_maps : (role : Role) (found : List Place) → AnswersLeast (Among found (OnTermMap triples columns base role)) (term_maps triples columns base role found)
  on_term_maps role found = of_all (OnTermMap triples columns base role) (term_map triples columns base role) found (λ p m. alone (term_map triples columns base role p))

  on_graph_maps : (node : Term) → AnswersLeast (OnGraphMaps triples columns base node) (graph_maps triples columns base node)
  on_graph_maps node = on_term_maps Graph (places triples node Graph)

  on_classes : (node : Term) → AnswersLeast (OnClasses triples node) (classes triples node)
  on_classes node = of_all (λ t. Fails (class t)) class (objects triples node (rr (codes "class"))) (λ t m. alone (class t))

  on_subject_node : (p : Place) → AnswersLeast (OnSubjectNode triples columns base p) (classes_and_graphs triples columns base p)
  on_subject_node (Constant t) = never (OnSubjectNode triples columns base (Constant t)) ([], []) (λ c h. h)
  on_subject_node (Node node) =
      of_both (OnClasses triples node) (OnGraphMaps triples columns base node) (classes triples node) (graph_maps triples columns base node) (on_classes node) (on_graph_maps node)

  on_subject : (m : Term) → AnswersLeast (OnSubject triples columns base m) (subject triples columns base m)
  on_subject m =
      let found = places triples m Subject in
      of_then (Fails (exactly_one 10 found)) (OnSubjectMap triples columns base) (exactly_one 10 found) (subject_at triples columns base) (alone (exactly_one 10 found))
      (λ p e. of_both (OnTermMap triples columns base Subject p) (OnSubjectNode triples columns base p) (term_map triples columns base Subject p) (classes_and_graphs triples columns base p) (alone (term_map triples columns base Subject p)) (on_subject_node p))

  on_predicates : (node : Term) → AnswersLeast (OnPredicates triples columns base node) (predicates triples columns base node)
  on_predicates node = of_some (OnTermMap triples columns base Predicate) 17 (term_map triples columns base Predicate) (places triples node Predicate) (λ p. alone (term_map triples columns base Predicate p))

module _ (triples : List Triple) (schema : List Table) where
  on_side : (table : Option ℕ) (values : List Term) → AnswersLeast (OnSide schema table values) (side schema table values)
  on_side table values =
      let read = all_of (map (column_if_known schema table) values) in
      of_then (OnColumns schema table values) (λ columns. Fails (exactly_one 19 columns)) read (exactly_one 19)
      (of_all (λ t. Fails (column_if_known schema table t)) (column_if_known schema table) values (λ t m. alone (column_if_known schema table t))) (λ columns e. alone (exactly_one 19 columns))

  on_condition : (table : ℕ) (parent : Option ℕ) (node : Term) → AnswersLeast (OnCondition triples schema table parent node) (condition triples schema table parent node)
  on_condition table parent node =
      let children = objects triples node (rr (codes "child")) in
      let parents = objects triples node (rr (codes "parent")) in
      let child = side schema (Some table) children in
      let column = side schema parent parents in
      of_then (λ c. OnSide schema (Some table) children c ⊎ OnSide schema parent parents c) (λ p. Fails (comparable schema table parent p)) (both child column) (comparable schema table parent)
      (of_both (OnSide schema (Some table) children) (OnSide schema parent parents) child column (on_side (Some table) children) (on_side parent parents)) (λ p e. alone (comparable schema table parent p))

  on_conditions : (table : ℕ) (parent : Option ℕ) (nodes : List Term) → AnswersLeast (OnConditions triples schema table parent nodes) (conditions triples schema table parent nodes)
  on_conditions table parent [] = alone (same_table table parent)
  on_conditions table parent (node ∷ nodes) =
      of_all (OnCondition triples schema table parent) (condition triples schema table parent) (node ∷ nodes) (λ t m. on_condition table parent t)

  module _ (base : List ℕ) (maps : List MapNode) (table : ℕ) where
    on_referencing_map : (node : Term) (parents : List Term) → AnswersLeast (OnReferencingMap triples schema maps table node parents) (referencing_map triples schema maps table node parents)
    on_referencing_map node parents =
        let parent = parent_of maps parents in
        let nodes = objects triples node (rr (codes "joinCondition")) in
        let parent_table = table_of_parent maps parent in
        let pairs = conditions triples schema table parent_table nodes in
        let rest : ℕ → Type 0 = λ c. Fails parent c ⊎ OnConditions triples schema table parent_table nodes c in
        of_value (OnReferencingMap triples schema maps table node parents) (both (no_term_map triples node) (both parent pairs)) (λ made. object.Parent made.1.0 made.1.1)
        (of_both (Fails (no_term_map triples node)) rest (no_term_map triples node) (both parent pairs) (alone (no_term_map triples node))
        (of_both (Fails parent) (OnConditions triples schema table parent_table nodes) parent pairs (alone parent) (on_conditions table parent_table nodes)))

    on_object_node : (node : Term) (parents : List Term) → AnswersLeast (OnObjectNode triples schema base maps table node parents) (object_at_node triples schema base maps table node parents)
    on_object_node node [] = of_value (OnObjectNode triples schema base maps table node []) (term_map triples (columns_of schema table) base Object (Node node)) object.Term (alone (term_map triples (columns_of schema table) base Object (Node node)))
    on_object_node node (p ∷ ps) = on_referencing_map node (p ∷ ps)

    on_object_map : (p : Place) → AnswersLeast (OnObjectMap triples schema base maps table p) (object_map triples schema base maps table p)
    on_object_map (Constant t) = of_value (OnObjectMap triples schema base maps table (Constant t)) (term_map triples (columns_of schema table) base Object (Constant t)) object.Term (alone (term_map triples (columns_of schema table) base Object (Constant t)))
    on_object_map (Node node) = on_object_node node (objects triples node (rr (codes "parentTriplesMap")))

    on_objects : (node : Term) → AnswersLeast (OnObjects triples schema base maps table node) (objects_of triples schema base maps table node)
    on_objects node = of_some (OnObjectMap triples schema base maps table) 17 (object_map triples schema base maps table) (places triples node Object) on_object_map

    on_pair : (node : Term) → AnswersLeast (OnPair triples schema base maps table node) (pair_at triples schema base maps table node)
    on_pair node =
        let columns = columns_of schema table in
        let ps = predicates triples columns base node in
        let os = objects_of triples schema base maps table node in
        let gs = graph_maps triples columns base node in
        of_value (OnPair triples schema base maps table node) (both ps (both os gs)) (λ made. record { predicates = made.0; objects = made.1.0; graphs = made.1.1 })
        (of_both (OnPredicates triples columns base node) (λ c. OnObjects triples schema base maps table node c ⊎ OnGraphMaps triples columns base node c) ps (both os gs) (on_predicates triples columns base node)
        (of_both (OnObjects triples schema base maps table node) (OnGraphMaps triples columns base node) os gs (on_objects node) (on_graph_maps triples columns base node)))

    on_predicate_object_map : (t : Term) → AnswersLeast (OnPredicateObjectMap triples schema base maps table t) (predicate_object_map triples schema base maps table t)
    on_predicate_object_map t =
        of_then (Fails (resource 17 t)) (OnPair triples schema base maps table) (resource 17 t) (pair_at triples schema base maps table) (alone (resource 17 t)) (λ node e. on_pair node)

    on_parts : (m : Term) → AnswersLeast (OnParts triples schema base maps m table) (triples_map_over triples schema base maps m table)
    on_parts m =
        let columns = columns_of schema table in
        let found = objects triples m (rr (codes "predicateObjectMap")) in
        let pairs = predicate_object_maps triples schema base maps table m in
        of_value (OnParts triples schema base maps m table) (both (subject triples columns base m) pairs)
        (λ made. record { table = table; subject = made.0.0; classes = made.0.1.0; graphs = made.0.1.1; predicate_objects = made.1 })
        (of_both (OnSubject triples columns base m) (Among found (OnPredicateObjectMap triples schema base maps table)) (subject triples columns base m) pairs (on_subject triples columns base m)
        (of_all (OnPredicateObjectMap triples schema base maps table) (predicate_object_map triples schema base maps table) found (λ t c. on_predicate_object_map t)))

  -- the answer of a triples map is the least check that fails on it
  pub on_triples_map : (base : List ℕ) (maps : List MapNode) (m : MapNode) → AnswersLeast (OnTriplesMap triples schema base maps m) (triples_map triples schema base maps m)
  on_triples_map base maps m =
      of_then (Fails m.table) (OnParts triples schema base maps m.node) m.table (triples_map_over triples schema base maps m.node) (alone m.table) (λ table e. on_parts base maps table m.node)
