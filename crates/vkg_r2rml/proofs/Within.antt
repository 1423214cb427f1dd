-- The mapping that a graph is over a schema is within it: each table, column and parent that it names is there.
use Rattle.std.proofs.Common.{◌≡◌, ◌∙◌, ℕ, zero, suc, ◌+◌, ◌<◌, Bool, true, false, List, [], ◌∷◌, map, length, refl, sym, ap, subst, arith}
use Rattle.std.specs.Prelude.{Option, Some, None, option_map, Result, Ok, Err, IfSome, slice_get, unwrap_or, codes, ◌==◌, ok_or, nat_lt, if◌then◌else◌}
use Rattle.std.specs.Option.{option_map_or}
use Rattle.std.specs.List.{AllByRecursion, AllZip}
use Rattle.std.proofs.lemmas.Bool.{eqb-true}
use Rattle.std.proofs.lemmas.Option.{slice_get-map, slice_get_within}
use Rattle.std.specs.Result.{result_ok}
use Rattle.vkg_lists.proofs.Positions.{place_within}
use Rattle.vkg_lists.specs.Results.{unless, in_front}
use Rattle.vkg_lists.proofs.Results.{ok_same}
use Rattle.vkg_terms.specs.declared.term.Term.{Term}
use Rattle.vkg_terms.specs.declared.term.Term.TheVariants.{Iri, Blank, Lit}
use Rattle.vkg_terms.specs.declared.term.Annotation.TheVariants.{Plain, Lang, Typed}
use Rattle.vkg_terms.specs.Name.{is_name}
use Rattle.vkg_terms.specs.Same.{term_eq}
use Rattle.vkg_cells.specs.Order.{family}
use Rattle.vkg_schema.specs.declared.table.Column.{Column}
use Rattle.vkg_schema.specs.declared.table.Table.{Table}
use Rattle.vkg_maps.specs.declared.mapping.Mapping.{Mapping}
use Rattle.vkg_maps.specs.declared.mapping.ObjectMap.{ObjectMap}
use Rattle.vkg_maps.specs.declared.mapping.ObjectMap.TheVariants as object
use Rattle.vkg_maps.specs.declared.mapping.PredicateObjectMap.{PredicateObjectMap}
use Rattle.vkg_maps.specs.declared.mapping.TriplesMap.{TriplesMap}
use Rattle.vkg_maps.specs.declared.term_map.TermMap.{TermMap}
use Rattle.vkg_maps.specs.QuadRules.{parent_of as maps_parent_of, quad_rules, rule_limit}
use Rattle.vkg_turtle.specs.declared.triple.Triple.{Triple}
use Rattle.vkg_term_maps.specs.declared.place.Place.{Place}
use Rattle.vkg_term_maps.specs.declared.place.Place.TheVariants.{Constant, Node}
use Rattle.vkg_term_maps.specs.declared.place.Role.{Role}
use Rattle.vkg_term_maps.specs.declared.place.Role.TheVariants.{Subject, Predicate, Object, Graph}
use Rattle.vkg_term_maps.specs.Columns.{column_of, means}
use Rattle.vkg_term_maps.specs.Graph.{objects, places}
use Rattle.vkg_term_maps.specs.declared.error.TermMapFault.{TermMapFault}
use Rattle.vkg_term_maps.specs.TermMaps.{term_map_of}
use Rattle.vkg_term_maps.specs.Vocabulary.{rr}
use Rattle.vkg_r2rml.specs.declared.map_error.MapFault.{MapFault}
use Rattle.vkg_r2rml.specs.declared.map_node.MapNode.{MapNode}
use Rattle.vkg_r2rml.specs.Checked.{Checked, both, all_of, and_then, at_least_one, exactly_one, numbered, resource}
use Rattle.vkg_r2rml.specs.LogicalTable.{source, table_named, table_of, table_of_node, table_of_text}
use Rattle.vkg_r2rml.specs.Mapping.{count_fault, fault, in_order, of_maps}
use Rattle.vkg_r2rml.specs.ReferencingMap.{columns_of, column_if_known, column_named, comparable, condition, conditions, family_at, no_term_map, parent_of, reference, referencing_map, side, table_of_parent}
use Rattle.vkg_r2rml.specs.TriplesMap.{as_object, assembled, classes, classes_and_graphs, graph_maps, object_at_node, object_map, object_maps, objects_of, pair, pair_at, predicate_object_map, predicate_object_maps, predicates, subject, subject_at, term_map, term_maps, triples_map, triples_map_over}
use Rattle.vkg_r2rml.specs.TriplesMaps.{map_node, nodes_of_maps, place_of, table_at, triples_maps}
use Rattle.vkg_maps.specs.Within.{kinds_at, AreConditions, IsCondition, IsMapWithin, IsObjectWithin, IsOver, IsPairWithin, IsWithin}
use Rattle.vkg_r2rml.specs.Within.{ReadIsWithin}
use Rattle.vkg_term_maps.proofs.OverColumns.{column_below as column_below_place, over_read}
use Rattle.vkg_r2rml.proofs.Parts.{of_all, of_both, of_first, of_option, of_then}

-- ---- columns and kinds

kinds_are : (schema : List Table) (table : ℕ) → map (λ (c : Column). c.kind) (columns_of schema table) ≡ kinds_at schema table
kinds_are schema table = of (slice_get schema table)
  where
    of : (o : Option Table) → map (λ (c : Column). c.kind) (option_map_or (λ (t : Table). t.columns) o []) ≡ unwrap_or (option_map (λ (t : Table). map (λ (c : Column). c.kind) t.columns) o) []
    of None = refl
    of (Some t) = refl

module _ (triples : List Triple) (schema : List Table) (base : List ℕ) where
  -- ---- term maps

  numbered_is : (r : Result TermMap TermMapFault) (t : TermMap) → numbered r ≡ Ok t → r ≡ Ok t
  numbered_is (Ok x) t e = let same : x ≡ t = cc in ap Ok same
  numbered_is (Err f) t e = cc

  over_place : (table : ℕ) (role : Role) (p : Place) (t : TermMap) → term_map triples (columns_of schema table) base role p ≡ Ok t → IsOver (kinds_at schema table) t
  over_place table role p t e = subst (λ ks. IsOver ks t) (kinds_are schema table) (over_read (columns_of schema table) triples base role p t (numbered_is (term_map_of triples (columns_of schema table) base role p) t e))

  over_places : (table : ℕ) (role : Role) (ps : List Place) (ts : List TermMap) → term_maps triples (columns_of schema table) base role ps ≡ Ok ts → AllByRecursion (IsOver (kinds_at schema table)) ts
  over_places table role ps ts e = of_all (IsOver (kinds_at schema table)) (term_map triples (columns_of schema table) base role) ps ts (over_place table role) e

  over_predicates : (table : ℕ) (node : Term) (ts : List TermMap) → predicates triples (columns_of schema table) base node ≡ Ok ts → AllByRecursion (IsOver (kinds_at schema table)) ts
  over_predicates table node ts e =
      let r = of_then (at_least_one 17 (places triples node Predicate)) (term_maps triples (columns_of schema table) base Predicate) ts e in
      over_places table Predicate r.0 ts r.2

  over_graphs : (table : ℕ) (p : Place) (made : List (List ℕ) × List TermMap) → classes_and_graphs triples (columns_of schema table) base p ≡ Ok made → AllByRecursion (IsOver (kinds_at schema table)) made.1
  over_graphs table (Constant t) made e = subst (λ (m : List (List ℕ) × List TermMap). AllByRecursion (IsOver (kinds_at schema table)) m.1) (ok_same ([], []) made e) tt
  over_graphs table (Node node) made e =
      over_places table Graph (places triples node Graph) made.1 (of_both (classes triples node) (graph_maps triples (columns_of schema table) base node) made e).1

  over_subject : (table : ℕ) (m : Term) (made : TermMap × (List (List ℕ) × List TermMap)) → subject triples (columns_of schema table) base m ≡ Ok made → IsOver (kinds_at schema table) made.0 × AllByRecursion (IsOver (kinds_at schema table)) made.1.1
  over_subject table m made e =
      let r = of_then (exactly_one 10 (places triples m Subject)) (subject_at triples (columns_of schema table) base) made e in
      let b = of_both (term_map triples (columns_of schema table) base Subject r.0) (classes_and_graphs triples (columns_of schema table) base r.0) made r.2 in
      (over_place table Subject r.0 made.0 b.0, over_graphs table r.0 made.1 b.1)

  -- ---- join conditions

  column_below : (table : ℕ) (t : Term) (n : ℕ) → column_if_known schema (Some table) t ≡ Ok n → n < length (kinds_at schema table)
  column_below table t n e = of t (of_option (column_named (columns_of schema table) t) 12 n e)
    where
      named : (text : List ℕ) → column_of (columns_of schema table) text ≡ Some n → n < length (kinds_at schema table)
      named text w = subst (λ ks. n < length ks) (kinds_are schema table) (column_below_place (columns_of schema table) text n w)

      of : (t : Term) → column_named (columns_of schema table) t ≡ Some n → n < length (kinds_at schema table)
      of (Iri s) w = cc
      of (Blank s) w = cc
      of (Lit text Plain) w = named text w
      of (Lit text (Lang tag)) w = cc
      of (Lit text (Typed d)) w = cc

  side_below : (table : ℕ) (values : List Term) (n : ℕ) → side schema (Some table) values ≡ Ok n → n < length (kinds_at schema table)
  side_below table values n e =
      let r = of_then (all_of (map (column_if_known schema (Some table)) values)) (exactly_one 19) n e in
      one r.0 (of_all (λ k. k < length (kinds_at schema table)) (column_if_known schema (Some table)) values r.0 (column_below table) r.1) r.2
    where
      one : (ns : List ℕ) → AllByRecursion (λ k. k < length (kinds_at schema table)) ns → exactly_one 19 ns ≡ Ok n → n < length (kinds_at schema table)
      one [] h e = cc
      one (k ∷ []) h e = subst (λ m. m < length (kinds_at schema table)) (ok_same k n e) h.0
      one (k ∷ l ∷ ns) h e = cc

  same_families : (table parent : ℕ) (c : ℕ × ℕ) → family_at schema table c.0 ≡ family_at schema parent c.1 →
      IfSome (slice_get (kinds_at schema table) c.0) (λ k. IfSome (slice_get (kinds_at schema parent) c.1) (λ l. family k ≡ family l))
  same_families table parent c e =
      subst (λ o. IfSome o (λ k. IfSome (slice_get (kinds_at schema parent) c.1) (λ l. family k ≡ family l))) (column_kind table c.0)
      (subst (λ o. IfSome (option_map (λ (d : Column). d.kind) (slice_get (columns_of schema table) c.0)) (λ k. IfSome o (λ l. family k ≡ family l))) (column_kind parent c.1)
      (of (slice_get (columns_of schema table) c.0) (slice_get (columns_of schema parent) c.1) e))
    where
      column_kind : (t n : ℕ) → option_map (λ (d : Column). d.kind) (slice_get (columns_of schema t) n) ≡ slice_get (kinds_at schema t) n
      column_kind t n = sym (slice_get-map (λ (d : Column). d.kind) (columns_of schema t) n) ∙ ap (λ ks. slice_get ks n) (kinds_are schema t)

      of : (o p : Option Column) → option_map_or (λ (d : Column). family d.kind) o 0 ≡ option_map_or (λ (d : Column). family d.kind) p 0 →
          IfSome (option_map (λ (d : Column). d.kind) o) (λ k. IfSome (option_map (λ (d : Column). d.kind) p) (λ l. family k ≡ family l))
      of None p e = tt
      of (Some d) None e = tt
      of (Some d) (Some f) e = e

  condition_is : (table parent : ℕ) (node : Term) (c : ℕ × ℕ) → condition triples schema table (Some parent) node ≡ Ok c → IsCondition (kinds_at schema table) (kinds_at schema parent) c
  condition_is table parent node c e =
      let children = objects triples node (rr (codes "child")) in
      let parents = objects triples node (rr (codes "parent")) in
      let r = of_then (both (side schema (Some table) children) (side schema (Some parent) parents)) (comparable schema table (Some parent)) c e in
      let b = of_both (side schema (Some table) children) (side schema (Some parent) parents) r.0 r.1 in
      let k = compared r.0 (family_at schema table r.0.0 == family_at schema parent r.0.1) refl r.2 in
      subst (IsCondition (kinds_at schema table) (kinds_at schema parent)) k.0
      (record { of_child = side_below table children r.0.0 b.0; of_parent = side_below parent parents r.0.1 b.1; comparable = same_families table parent r.0 k.1 })
    where
      compared : (p : ℕ × ℕ) (b : Bool) → (family_at schema table p.0 == family_at schema parent p.1) ≡ b → ◌≡◌ {A = Checked (ℕ × ℕ)} (if b then Ok p else Err 20) (Ok c) →
          (p ≡ c) × (family_at schema table p.0 ≡ family_at schema parent p.1)
      compared p true w e = (ok_same p c e, eqb-true (family_at schema table p.0) (family_at schema parent p.1) w)
      compared p false w e = cc

  are_conditions : (table parent : ℕ) (nodes : List Term) (cs : List (ℕ × ℕ)) → conditions triples schema table (Some parent) nodes ≡ Ok cs → AreConditions schema table parent cs
  are_conditions table parent [] cs e = of (table == parent) refl e
    where
      of : (b : Bool) → (table == parent) ≡ b → ◌≡◌ {A = Checked (List (ℕ × ℕ))} (if b then Ok [] else Err 19) (Ok cs) → AreConditions schema table parent cs
      of true w e = subst (AreConditions schema table parent) (ok_same [] cs e) (sym (eqb-true table parent w))
      of false w e = cc
  are_conditions table parent (node ∷ nodes) cs e =
      let all = of_all (IsCondition (kinds_at schema table) (kinds_at schema parent)) (condition triples schema table (Some parent)) (node ∷ nodes) cs (condition_is table parent) e in
      let some = of_first (condition triples schema table (Some parent)) node nodes cs e in
      subst (AreConditions schema table parent) (sym some.2) (subst (AllByRecursion (IsCondition (kinds_at schema table) (kinds_at schema parent))) some.2 all)

  -- ---- triples maps, of which the parents' tables are known

  module _ (nodes : List MapNode) (ms : List TriplesMap) (known : (k : ℕ) → k < length nodes → (parent : TriplesMap) × (slice_get ms k ≡ Some parent) × (table_at nodes k ≡ Some parent.table)) where
    module _ (m : TriplesMap) where
      parent_within : (parents : List Term) (k : ℕ) → parent_of nodes parents ≡ Ok k → k < length nodes
      parent_within parents k e =
          let r = of_then (exactly_one 18 parents) (λ p. ok_or (place_of nodes p) 18) k e in
          place_within (λ (n : MapNode). term_eq n.node r.0) nodes k (of_option (place_of nodes r.0) 18 k r.2)

      reference_is : (node : Term) (parents : List Term) (o : ObjectMap) → referencing_map triples schema nodes m.table node parents ≡ Ok o → IsObjectWithin schema ms m o
      reference_is node parents o e =
          let joins = objects triples node (rr (codes "joinCondition")) in
          let r = of_then (both (no_term_map triples node) (reference triples schema nodes m.table (parent_of nodes parents) joins)) (λ (made : List Term × (ℕ × List (ℕ × ℕ))). Ok (object.Parent made.1.0 made.1.1)) o e in
          let b = of_both (no_term_map triples node) (reference triples schema nodes m.table (parent_of nodes parents) joins) r.0 r.1 in
          let c = of_both (parent_of nodes parents) (conditions triples schema m.table (table_of_parent nodes (parent_of nodes parents)) joins) r.0.1 b.1 in
          let place : ℕ = r.0.1.0 in
          let p = known place (parent_within parents place c.0) in
          let table : table_of_parent nodes (parent_of nodes parents) ≡ Some p.0.table = ap (table_of_parent nodes) c.0 ∙ p.2 in
          let above : maps_parent_of ms m place ≡ p.0 = ap (λ o. unwrap_or o m) p.1 in
          let are : AreConditions schema m.table p.0.table r.0.1.1 = are_conditions m.table p.0.table joins r.0.1.1 (ap (λ o. conditions triples schema m.table o joins) (sym table) ∙ c.1) in
          subst (IsObjectWithin schema ms m) (ok_same (object.Parent place r.0.1.1) o r.2)
          (slice_get_within ms place p.0 p.1, subst (λ (a : TriplesMap). AreConditions schema m.table a.table r.0.1.1) (sym above) are)

      term_is : (p : Place) (o : ObjectMap) → and_then (term_map triples (columns_of schema m.table) base Object p) as_object ≡ Ok o → IsObjectWithin schema ms m o
      term_is p o e =
          let r = of_then (term_map triples (columns_of schema m.table) base Object p) as_object o e in
          subst (IsObjectWithin schema ms m) (ok_same (object.Term r.0) o r.2) (over_place m.table Object p r.0 r.1)

      object_is : (p : Place) (o : ObjectMap) → object_map triples schema base nodes m.table p ≡ Ok o → IsObjectWithin schema ms m o
      object_is (Constant t) o e = term_is (Constant t) o e
      object_is (Node node) o e = of (objects triples node (rr (codes "parentTriplesMap"))) e
        where
          of : (parents : List Term) → object_at_node triples schema base nodes m.table node parents ≡ Ok o → IsObjectWithin schema ms m o
          of [] e = term_is (Node node) o e
          of (p ∷ ps) e = reference_is node (p ∷ ps) o e

      objects_are : (node : Term) (os : List ObjectMap) → objects_of triples schema base nodes m.table node ≡ Ok os → AllByRecursion (IsObjectWithin schema ms m) os
      objects_are node os e =
          let r = of_then (at_least_one 17 (places triples node Object)) (object_maps triples schema base nodes m.table) os e in
          of_all (IsObjectWithin schema ms m) (object_map triples schema base nodes m.table) r.0 os object_is r.2

      pair_is : (t : Term) (po : PredicateObjectMap) → predicate_object_map triples schema base nodes m.table t ≡ Ok po → IsPairWithin schema ms m po
      pair_is t po e =
          let n = of_then (resource 17 t) (pair_at triples schema base nodes m.table) po e in
          let columns = columns_of schema m.table in
          let ps = predicates triples columns base n.0 in
          let os = objects_of triples schema base nodes m.table n.0 in
          let gs = graph_maps triples columns base n.0 in
          let r = of_then (both ps (both os gs)) pair po n.2 in
          let b = of_both ps (both os gs) r.0 r.1 in
          let c = of_both os gs r.0.1 b.1 in
          subst (IsPairWithin schema ms m) (ok_same (record { predicates = r.0.0; objects = r.0.1.0; graphs = r.0.1.1 }) po r.2) (record {
            predicates = over_predicates m.table n.0 r.0.0 b.0;
            objects = objects_are n.0 r.0.1.0 c.0;
            graphs = over_places m.table Graph (places triples n.0 Graph) r.0.1.1 c.1;
          })

    map_is : (n : MapNode) (m : TriplesMap) → ((t : ℕ) → n.table ≡ Ok t → t < length schema) → triples_map triples schema base nodes n ≡ Ok m → IsMapWithin schema ms m
    map_is n m inside e =
        let t = of_then n.table (triples_map_over triples schema base nodes n.node) m e in
        let subjects = subject triples (columns_of schema t.0) base n.node in
        let pairs = predicate_object_maps triples schema base nodes t.0 n.node in
        let r = of_then (both subjects pairs) (assembled t.0) m t.2 in
        let b = of_both subjects pairs r.0 r.1 in
        let s = over_subject t.0 n.node r.0.0 b.0 in
        let made : TriplesMap = record { table = t.0; subject = r.0.0.0; classes = r.0.0.1.0; graphs = r.0.0.1.1; predicate_objects = r.0.1 } in
        subst (IsMapWithin schema ms) (ok_same made m r.2) (record {
          table = inside t.0 t.1;
          subject = s.0;
          graphs = s.1;
          predicate_objects = of_all (IsPairWithin schema ms made) (predicate_object_map triples schema base nodes t.0) (objects triples n.node (rr (codes "predicateObjectMap"))) r.0.1 (pair_is made) b.1;
        })

  -- ---- all triples maps

  module _ (nodes : List MapNode) where
    -- a node and the triples map that it is
    record IsRead (n : MapNode) (m : TriplesMap) : Type 0 where
      read : triples_map triples schema base nodes n ≡ Ok m
      table : n.table ≡ Ok m.table

    read_table : (n : MapNode) (m : TriplesMap) → triples_map triples schema base nodes n ≡ Ok m → IsRead n m
    read_table n m e =
        let t = of_then n.table (triples_map_over triples schema base nodes n.node) m e in
        let r = of_then (both (subject triples (columns_of schema t.0) base n.node) (predicate_object_maps triples schema base nodes t.0 n.node)) (assembled t.0) m t.2 in
        let made : TriplesMap = record { table = t.0; subject = r.0.0.0; classes = r.0.0.1.0; graphs = r.0.0.1.1; predicate_objects = r.0.1 } in
        record { read = e; table = t.1 ∙ ap (λ (x : TriplesMap). Ok x.table) (ok_same made m r.2) }

    all_read : (place : ℕ) (ns : List MapNode) (ms : List TriplesMap) → in_order place (map (triples_map triples schema base nodes) ns) ≡ Ok ms → AllZip IsRead ns ms
    all_read place [] ms e = let same : [] ≡ ms = cc in subst (AllZip IsRead []) same tt
    all_read place (n ∷ ns) ms e = of (triples_map triples schema base nodes n) refl (all_read (place + 1) ns) e
      where
        later : Result (List TriplesMap) MapFault
        later = in_order (place + 1) (map (triples_map triples schema base nodes) ns)

        rest : (m : TriplesMap) → triples_map triples schema base nodes n ≡ Ok m → (r : Result (List TriplesMap) MapFault) → ((xs : List TriplesMap) → r ≡ Ok xs → AllZip IsRead ns xs) → in_front m r ≡ Ok ms → AllZip IsRead (n ∷ ns) ms
        rest m w (Ok xs) h e = let same : m ∷ xs ≡ ms = cc in subst (AllZip IsRead (n ∷ ns)) same (read_table n m w, h xs refl)
        rest m w (Err f) h e = cc

        of : (c : Checked TriplesMap) → triples_map triples schema base nodes n ≡ c → ((xs : List TriplesMap) → later ≡ Ok xs → AllZip IsRead ns xs) →
            in_order place (c ∷ map (triples_map triples schema base nodes) ns) ≡ Ok ms → AllZip IsRead (n ∷ ns) ms
        of (Ok m) w h e = rest m w later h e
        of (Err check) w h e = cc

    at_place : (ns : List MapNode) (ms : List TriplesMap) → AllZip IsRead ns ms → (k : ℕ) → k < length ns → (m : TriplesMap) × (slice_get ms k ≡ Some m) × (table_at ns k ≡ Some m.table)
    at_place [] ms h k l = absurd (let n : k < 0 = l in omega (arith, n))
    at_place (n ∷ ns) [] h k l = absurd h
    at_place (n ∷ ns) (m ∷ ms) h zero l = (m, refl, ap result_ok h.0.table)
    at_place (n ∷ ns) (m ∷ ms) h (suc k) l = at_place ns ms h.1 k (omega (arith, l))

    each_within : (ms : List TriplesMap) → ((k : ℕ) → k < length nodes → (m : TriplesMap) × (slice_get ms k ≡ Some m) × (table_at nodes k ≡ Some m.table)) →
        (ns : List MapNode) (xs : List TriplesMap) → AllByRecursion (λ (n : MapNode). (t : ℕ) → n.table ≡ Ok t → t < length schema) ns → AllZip IsRead ns xs → AllByRecursion (IsMapWithin schema ms) xs
    each_within ms known [] [] h z = tt
    each_within ms known [] (x ∷ xs) h z = absurd z
    each_within ms known (n ∷ ns) [] h z = tt
    each_within ms known (n ∷ ns) (x ∷ xs) h z = (map_is nodes ms known n x h.0 z.0.read, each_within ms known ns xs h.1 z.1)

  -- a table that is named is in the schema
  table_inside : (node : Term) (t : ℕ) → table_of triples schema node ≡ Ok t → t < length schema
  table_inside node t e =
      let a = of_then (exactly_one 6 (objects triples node (rr (codes "logicalTable")))) (λ n. and_then (resource 6 n) (table_of_node triples schema)) t e in
      let b = of_then (resource 6 a.0) (table_of_node triples schema) t a.2 in
      let c = of_then (source (objects triples b.0 (rr (codes "tableName"))) (objects triples b.0 (rr (codes "sqlQuery")))) (table_named schema) t b.2 in
      of c.0 c.2
    where
      named : (text : List ℕ) (b : Bool) → ◌≡◌ {A = Checked ℕ} (if b then ok_or (table_of_text schema text) 9 else Err 7) (Ok t) → t < length schema
      named text true e = place_within (λ (x : Table). means text x.name) schema t (of_option (table_of_text schema text) 9 t e)
      named text false e = cc

      of : (name : Term) → table_named schema name ≡ Ok t → t < length schema
      of (Iri s) e = cc
      of (Blank s) e = cc
      of (Lit text Plain) e = named text (is_name text) e
      of (Lit text (Lang tag)) e = cc
      of (Lit text (Typed d)) e = cc

  all_inside : (terms : List Term) → AllByRecursion (λ (n : MapNode). (t : ℕ) → n.table ≡ Ok t → t < length schema) (map (map_node triples schema) terms)
  all_inside [] = tt
  all_inside (x ∷ xs) = (table_inside x, all_inside xs)

  pub read_is_within : (mapping : Mapping) → ReadIsWithin triples schema base mapping
  read_is_within mapping e = of (count_fault nodes) e
    where
      nodes : List MapNode
      nodes = triples_maps triples schema

      read : Result (List TriplesMap) MapFault
      read = in_order 1 (map (triples_map triples schema base nodes) nodes)

      few : (ms : List TriplesMap) (b : Bool) → read ≡ Ok ms → ◌≡◌ {A = Result Mapping MapFault} (if b then Err (fault 22 0) else Ok (record { base = base; maps = ms })) (Ok mapping) → IsWithin schema mapping
      few ms true r e = cc
      few ms false r e =
          let same : record { base = base; maps = ms } ≡ mapping = cc in
          let zip = all_read nodes 1 nodes ms r in
          subst (IsWithin schema) same (each_within nodes ms (at_place nodes nodes ms zip) nodes ms (all_inside (nodes_of_maps triples)) zip)

      maps : (r : Result (List TriplesMap) MapFault) → read ≡ r → of_maps base r ≡ Ok mapping → IsWithin schema mapping
      maps (Ok ms) w e = few ms (nat_lt rule_limit (length (quad_rules (record { base = base; maps = ms })))) w e
      maps (Err f) w e = cc

      of : (o : Option MapFault) → unless o (of_maps base read) ≡ Ok mapping → IsWithin schema mapping
      of None e = maps read refl e
      of (Some f) e = cc
