-- The number of the least check that fails of a mapping graph is one of M06 to M22.
use Rattle.std.proofs.Common.{◌≡◌, ℕ, ◌+◌, ◌≤◌, Bool, true, false, List, [], ◌∷◌, ◌++◌, length, map, nat_lt, position, codes, Option, Some, None, Result, Ok, Err, sym, subst, arith}
use Rattle.std.specs.Prelude.{◌==◌, IfErr, IfSome, if◌then◌else◌, ok_or}
use Rattle.std.specs.List.{AllByRecursion}
use Rattle.std.specs.Result.{result_err}
use Rattle.vkg_lists.specs.Places.{least_of, lesser}
use Rattle.vkg_lists.specs.Results.{in_front, unless}
use Rattle.vkg_lists.proofs.Places.{least_of-cons}
use Rattle.vkg_terms.specs.Name.{is_name}
use Rattle.vkg_terms.specs.declared.term.Annotation.{Annotation}
use Rattle.vkg_terms.specs.declared.term.Annotation.TheVariants.{Plain, Lang, Typed}
use Rattle.vkg_terms.specs.declared.term.Term.{Term}
use Rattle.vkg_terms.specs.declared.term.Term.TheVariants.{Iri, Blank, Lit}
use Rattle.vkg_turtle.specs.declared.triple.Triple.{Triple}
use Rattle.vkg_schema.specs.declared.table.Column.{Column}
use Rattle.vkg_schema.specs.declared.table.Table.{Table}
use Rattle.vkg_maps.specs.declared.mapping.Mapping.{Mapping}
use Rattle.vkg_maps.specs.declared.mapping.ObjectMap.{ObjectMap}
use Rattle.vkg_maps.specs.declared.mapping.ObjectMap.TheVariants.{Parent}
use Rattle.vkg_maps.specs.declared.mapping.TriplesMap.{TriplesMap}
use Rattle.vkg_maps.specs.QuadRules.{quad_rules, rule_limit}
use Rattle.vkg_term_maps.specs.TermMaps.{term_map_of}
use Rattle.vkg_term_maps.specs.Graph.{objects, places}
use Rattle.vkg_term_maps.specs.Vocabulary.{rr}
use Rattle.vkg_term_maps.specs.declared.error.TermMapFault.{TermMapFault}
use Rattle.vkg_term_maps.specs.declared.error.TermMapFault.TheVariants.{Kind, UnknownColumn, BadTemplate, DoubtfulTemplate, TermType, Annotation as BadAnnotation, WideNumber}
use Rattle.vkg_term_maps.specs.declared.place.Place.{Place}
use Rattle.vkg_term_maps.specs.declared.place.Place.TheVariants.{Constant, Node}
use Rattle.vkg_term_maps.specs.declared.place.Role.{Role}
use Rattle.vkg_term_maps.specs.declared.place.Role.TheVariants.{Subject, Predicate, Object, Graph}
use Rattle.vkg_r2rml.specs.Checked.{Checked, all_of, and_then, at_least_one, both, exactly_one, none_of, numbered, resource}
use Rattle.vkg_r2rml.specs.LogicalTable.{source, table_named, table_of, table_of_node, table_of_text}
use Rattle.vkg_r2rml.specs.Mapping.{count_fault, in_order, map_limit, mapping_of, of_maps, within_rules}
use Rattle.vkg_r2rml.specs.ReferencingMap.{column_if_known, column_named, columns_of, comparable, condition, conditions, family_at, no_term_map, parent_of, reference, referencing_map, same_table, side, table_of_parent}
use Rattle.vkg_r2rml.specs.TriplesMap.{as_object, assembled, class, classes, classes_and_graphs, graph_maps, object_at_node, object_map, object_maps, objects_of, pair, pair_at, predicate_object_map, predicate_object_maps, predicates, subject, subject_at, term_map, term_maps, triples_map, triples_map_over}
use Rattle.vkg_r2rml.specs.TriplesMaps.{map_node, nodes_of_maps, place_of, triples_maps}
use Rattle.vkg_r2rml.specs.declared.map_error.MapFault.{MapFault}
use Rattle.vkg_r2rml.specs.declared.map_node.MapNode.{MapNode}
use Rattle.vkg_cli.specs.Work.{IsCheck}
use Rattle.vkg_cli.proofs.Numbers.{each_given}

-- a part that is fine, or fails a check of the table
abbrev Fine : {A : Type 0} → Checked A → Type 0
Fine part = IfErr part (λ check. IsCheck 1 22 check)

-- ---- parts of parts

fine_both : {A B : Type 0} (a : Checked A) (b : Checked B) → Fine a → Fine b → Fine (both a b)
fine_both (Ok a) (Ok b) x y = tt
fine_both (Ok a) (Err d) x y = y
fine_both (Err c) (Ok b) x y = x
fine_both (Err c) (Err d) x y = let low = x.0 in let high = x.1 in let least = y.0 in let most = y.1 in (omega (arith, low, least), omega (arith, high, most))

lesser_in : (a b : Option ℕ) → IfSome a (IsCheck 1 22) → IfSome b (IsCheck 1 22) → IfSome (lesser a b) (IsCheck 1 22)
lesser_in None b x y = y
lesser_in (Some a) None x y = x
lesser_in (Some a) (Some b) x y = let low = x.0 in let high = x.1 in let least = y.0 in let most = y.1 in (omega (arith, low, least), omega (arith, high, most))

err_in : {A : Type 0} (part : Checked A) → Fine part → IfSome (result_err part) (IsCheck 1 22)
err_in (Ok a) x = tt
err_in (Err c) x = x

least_in : {A : Type 0} (parts : List (Checked A)) → AllByRecursion (λ part. Fine part) parts → IfSome (least_of result_err parts) (IsCheck 1 22)
least_in [] h = tt
least_in (part ∷ parts) h =
    subst (λ o. IfSome o (IsCheck 1 22)) (sym (least_of-cons result_err part parts)) (lesser_in (result_err part) (least_of result_err parts) (err_in part h.0) (least_in parts h.1))

unless_in : {A : Type 0} (o : Option ℕ) (v : A) → IfSome o (IsCheck 1 22) → Fine (unless o (Ok v))
unless_in None v x = tt
unless_in (Some c) v x = x

fine_all : {A : Type 0} (parts : List (Checked A)) → AllByRecursion (λ part. Fine part) parts → Fine (all_of parts)
fine_all parts h = unless_in (least_of result_err parts) _ (least_in parts h)

fine_each : {A B : Type 0} (f : A → Checked B) (xs : List A) → ((x : A) → Fine (f x)) → Fine (all_of (map f xs))
fine_each f xs g = fine_all (map f xs) (each_given (λ part. Fine part) f g xs)

fine_then : {A B : Type 0} (part : Checked A) (next : A → Checked B) → Fine part → ((a : A) → Fine (next a)) → Fine (and_then part next)
fine_then (Ok a) next x g = g a
fine_then (Err c) next x g = x

fine_one : {A : Type 0} (check : ℕ) (xs : List A) → IsCheck 1 22 check → Fine (exactly_one check xs)
fine_one check [] is = is
fine_one check (x ∷ []) is = tt
fine_one check (x ∷ y ∷ ys) is = is

fine_some : {A : Type 0} (check : ℕ) (xs : List A) → IsCheck 1 22 check → Fine (at_least_one check xs)
fine_some check [] is = is
fine_some check (x ∷ xs) is = tt

fine_none : {A : Type 0} (check : ℕ) (xs : List A) → IsCheck 1 22 check → Fine (none_of check xs)
fine_none check [] is = tt
fine_none check (x ∷ xs) is = is

fine_resource : (check : ℕ) (t : Term) → IsCheck 1 22 check → Fine (resource check t)
fine_resource check (Iri iri) is = tt
fine_resource check (Blank label) is = tt
fine_resource check (Lit text annotation) is = is

fine_or : {A : Type 0} (o : Option A) (check : ℕ) → IsCheck 1 22 check → Fine (ok_or o check)
fine_or None check is = is
fine_or (Some v) check is = tt

fine_if : {A : Type 0} (b : Bool) (one other : Checked A) → Fine one → Fine other → Fine (if b then one else other)
fine_if true one other x y = x
fine_if false one other x y = y

-- ---- term maps

fine_numbered : {A : Type 0} (r : Result A TermMapFault) → Fine (numbered r)
fine_numbered (Ok a) = tt
fine_numbered (Err Kind) = (omega arith, omega arith)
fine_numbered (Err UnknownColumn) = (omega arith, omega arith)
fine_numbered (Err BadTemplate) = (omega arith, omega arith)
fine_numbered (Err DoubtfulTemplate) = (omega arith, omega arith)
fine_numbered (Err TermType) = (omega arith, omega arith)
fine_numbered (Err BadAnnotation) = (omega arith, omega arith)
fine_numbered (Err WideNumber) = (omega arith, omega arith)

-- ---- logical tables

fine_source : (names queries : List Term) → Fine (source names queries)
fine_source [] [] = (omega arith, omega arith)
fine_source [] (q ∷ []) = (omega arith, omega arith)
fine_source [] (q ∷ r ∷ qs) = (omega arith, omega arith)
fine_source (n ∷ []) [] = tt
fine_source (n ∷ []) (q ∷ qs) = (omega arith, omega arith)
fine_source (n ∷ m ∷ ns) queries = (omega arith, omega arith)

fine_named : (schema : List Table) (t : Term) → Fine (table_named schema t)
fine_named schema (Iri iri) = (omega arith, omega arith)
fine_named schema (Blank label) = (omega arith, omega arith)
fine_named schema (Lit text Plain) = fine_if (is_name text) _ _ (fine_or (table_of_text schema text) 9 (omega arith, omega arith)) (omega arith, omega arith)
fine_named schema (Lit text (Lang tag)) = (omega arith, omega arith)
fine_named schema (Lit text (Typed datatype)) = (omega arith, omega arith)

fine_table : (triples : List Triple) (schema : List Table) (m : Term) → Fine (table_of triples schema m)
fine_table triples schema m =
    fine_then _ _ (fine_one 6 (objects triples m (rr (codes "logicalTable"))) (omega arith, omega arith))
    (λ t. fine_then (resource 6 t) (table_of_node triples schema) (fine_resource 6 t (omega arith, omega arith))
    (λ node. fine_then _ (table_named schema) (fine_source (objects triples node (rr (codes "tableName"))) (objects triples node (rr (codes "sqlQuery")))) (fine_named schema)))

-- ---- referencing object maps

fine_column : (schema : List Table) (table : Option ℕ) (t : Term) → Fine (column_if_known schema table t)
fine_column schema None t = tt
fine_column schema (Some table) t = fine_or (column_named (columns_of schema table) t) 12 (omega arith, omega arith)

fine_side : (schema : List Table) (table : Option ℕ) (values : List Term) → Fine (side schema table values)
fine_side schema table values = fine_then _ _ (fine_each (column_if_known schema table) values (fine_column schema table)) (λ columns. fine_one 19 columns (omega arith, omega arith))

fine_comparable : (schema : List Table) (table : ℕ) (parent : Option ℕ) (p : ℕ × ℕ) → Fine (comparable schema table parent p)
fine_comparable schema table None p = tt
fine_comparable schema table (Some parent) p = by (family_at schema table p.0 == family_at schema parent p.1)
  where
    by : (b : Bool) → Fine {A = ℕ × ℕ} (if b then Ok p else Err 20)
    by true = tt
    by false = (omega arith, omega arith)

fine_same : (table : ℕ) (parent : Option ℕ) → Fine (same_table table parent)
fine_same table None = tt
fine_same table (Some parent) = by (table == parent)
  where
    by : (b : Bool) → Fine {A = List (ℕ × ℕ)} (if b then Ok [] else Err 19)
    by true = tt
    by false = (omega arith, omega arith)

module _ (triples : List Triple) (schema : List Table) where
  fine_condition : (table : ℕ) (parent : Option ℕ) (node : Term) → Fine (condition triples schema table parent node)
  fine_condition table parent node =
      fine_then _ _ (fine_both _ _ (fine_side schema (Some table) (objects triples node (rr (codes "child")))) (fine_side schema parent (objects triples node (rr (codes "parent"))))) (fine_comparable schema table parent)

  fine_conditions : (table : ℕ) (parent : Option ℕ) (nodes : List Term) → Fine (conditions triples schema table parent nodes)
  fine_conditions table parent [] = fine_same table parent
  fine_conditions table parent (node ∷ nodes) = fine_each (condition triples schema table parent) (node ∷ nodes) (fine_condition table parent)

  fine_parent : (maps : List MapNode) (parents : List Term) → Fine (parent_of maps parents)
  fine_parent maps parents = fine_then _ _ (fine_one 18 parents (omega arith, omega arith)) (λ p. fine_or (place_of maps p) 18 (omega arith, omega arith))

  fine_referencing : (maps : List MapNode) (table : ℕ) (node : Term) (parents : List Term) → Fine (referencing_map triples schema maps table node parents)
  fine_referencing maps table node parents =
      let joins = objects triples node (rr (codes "joinCondition")) in
      let one : Fine (no_term_map triples node) = fine_none 11 _ (omega arith, omega arith) in
      let other : Fine (reference triples schema maps table (parent_of maps parents) joins) = fine_both _ _ (fine_parent maps parents) (fine_conditions table (table_of_parent maps (parent_of maps parents)) joins) in
      let made = both (no_term_map triples node) (reference triples schema maps table (parent_of maps parents) joins) in
      fine_then {B = ObjectMap} made (λ made. Ok (Parent made.1.0 made.1.1)) (fine_both _ _ one other) (λ made. tt)

  -- ---- triples maps

  module _ (base : List ℕ) where
    fine_term : (columns : List Column) (role : Role) (p : Place) → Fine (term_map triples columns base role p)
    fine_term columns role p = fine_numbered (term_map_of triples columns base role p)

    fine_terms : (columns : List Column) (role : Role) (found : List Place) → Fine (term_maps triples columns base role found)
    fine_terms columns role found = fine_each (term_map triples columns base role) found (fine_term columns role)

    fine_class : (t : Term) → Fine (class t)
    fine_class (Iri iri) = tt
    fine_class (Blank label) = (omega arith, omega arith)
    fine_class (Lit text annotation) = (omega arith, omega arith)

    fine_classes : (columns : List Column) (p : Place) → Fine (classes_and_graphs triples columns base p)
    fine_classes columns (Constant t) = tt
    fine_classes columns (Node node) = fine_both _ _ (fine_each class (objects triples node (rr (codes "class"))) fine_class) (fine_terms columns Graph (places triples node Graph))

    fine_subject : (columns : List Column) (m : Term) → Fine (subject triples columns base m)
    fine_subject columns m =
        fine_then _ _ (fine_one 10 (places triples m Subject) (omega arith, omega arith)) (λ p. fine_both _ _ (fine_term columns Subject p) (fine_classes columns p))

    fine_predicates : (columns : List Column) (node : Term) → Fine (predicates triples columns base node)
    fine_predicates columns node = fine_then _ _ (fine_some 17 (places triples node Predicate) (omega arith, omega arith)) (fine_terms columns Predicate)

    module _ (maps : List MapNode) (table : ℕ) where
      fine_node : (node : Term) (parents : List Term) → Fine (object_at_node triples schema base maps table node parents)
      fine_node node [] = fine_then _ as_object (fine_term (columns_of schema table) Object (Node node)) (λ t. tt)
      fine_node node (p ∷ ps) = fine_referencing maps table node (p ∷ ps)

      fine_object : (p : Place) → Fine (object_map triples schema base maps table p)
      fine_object (Constant t) = fine_then _ as_object (fine_term (columns_of schema table) Object (Constant t)) (λ o. tt)
      fine_object (Node node) = fine_node node (objects triples node (rr (codes "parentTriplesMap")))

      fine_objects : (node : Term) → Fine (objects_of triples schema base maps table node)
      fine_objects node =
          fine_then _ _ (fine_some 17 (places triples node Object) (omega arith, omega arith)) (λ found. fine_each (object_map triples schema base maps table) found fine_object)

      fine_pair : (node : Term) → Fine (pair_at triples schema base maps table node)
      fine_pair node =
          fine_then _ pair
          (fine_both _ _ (fine_predicates (columns_of schema table) node) (fine_both _ _ (fine_objects node) (fine_terms (columns_of schema table) Graph (places triples node Graph))))
          (λ made. tt)

      fine_pairs : (t : Term) → Fine (predicate_object_map triples schema base maps table t)
      fine_pairs t = fine_then _ _ (fine_resource 17 t (omega arith, omega arith)) fine_pair

    fine_map : (maps : List MapNode) (m : MapNode) → Fine m.table → Fine (triples_map triples schema base maps m)
    fine_map maps m known =
        fine_then m.table _ known
        (λ table. fine_then _ (assembled table)
        (fine_both _ _ (fine_subject (columns_of schema table) m.node)
        (fine_each (predicate_object_map triples schema base maps table) (objects triples m.node (rr (codes "predicateObjectMap"))) (fine_pairs maps table)))
        (λ made. tt))

    fine_maps : (maps : List MapNode) (ms : List Term) → AllByRecursion (λ part. Fine part) (map (triples_map triples schema base maps) (map (map_node triples schema) ms))
    fine_maps maps [] = tt
    fine_maps maps (m ∷ ms) = (fine_map maps (map_node triples schema m) (fine_table triples schema m), fine_maps maps ms)

-- ---- mappings

front_in : {A : Type 0} (x : A) (r : Result (List A) MapFault) → IfErr r (λ f. IsCheck 1 22 f.check) → IfErr (in_front x r) (λ f. IsCheck 1 22 f.check)
front_in x (Ok xs) h = tt
front_in x (Err f) h = h

order_in : (place : ℕ) (ms : List (Checked TriplesMap)) → AllByRecursion (λ part. Fine part) ms → IfErr (in_order place ms) (λ f. IsCheck 1 22 f.check)
order_in place [] h = tt
order_in place (Ok m ∷ ms) h = front_in m (in_order (place + 1) ms) (order_in (place + 1) ms h.1)
order_in place (Err check ∷ ms) h = h.0

rules_in : (mapping : Mapping) → IfErr (within_rules mapping) (λ f. IsCheck 1 22 f.check)
rules_in mapping = by (nat_lt rule_limit (length (quad_rules mapping)))
  where
    by : (b : Bool) → IfErr (if b then Err (record { check = 22; map = 0 }) else Ok mapping) (λ (f : MapFault). IsCheck 1 22 f.check)
    by true = (omega arith, omega arith)
    by false = tt

maps_in : (base : List ℕ) (r : Result (List TriplesMap) MapFault) → IfErr r (λ f. IsCheck 1 22 f.check) → IfErr (of_maps base r) (λ f. IsCheck 1 22 f.check)
maps_in base (Ok ms) h = rules_in (record { base = base; maps = ms })
maps_in base (Err f) h = h

count_in : (nodes : List MapNode) → IfSome (count_fault nodes) (λ f. IsCheck 1 22 f.check)
count_in [] = (omega arith, omega arith)
count_in (m ∷ ms) = by (nat_lt map_limit (length (m ∷ ms)))
  where
    by : (b : Bool) → IfSome (if b then Some (record { check = 22; map = 0 }) else None) (λ (f : MapFault). IsCheck 1 22 f.check)
    by true = (omega arith, omega arith)
    by false = tt

unless_count : (o : Option MapFault) (r : Result Mapping MapFault) → IfSome o (λ f. IsCheck 1 22 f.check) → IfErr r (λ f. IsCheck 1 22 f.check) → IfErr (unless o r) (λ f. IsCheck 1 22 f.check)
unless_count None r x y = y
unless_count (Some f) r x y = x

pub mapping_number : (triples : List Triple) (schema : List Table) (base : List ℕ) (f : MapFault) → mapping_of triples schema base ≡ Err f → IsCheck 1 22 f.check
mapping_number triples schema base f e =
    let nodes = triples_maps triples schema in
    let all = fine_maps triples schema base nodes (nodes_of_maps triples) in
    subst (λ (r : Result Mapping MapFault). IfErr r (λ f. IsCheck 1 22 f.check)) e (unless_count (count_fault nodes) _ (count_in nodes) (maps_in base _ (order_in 1 _ all)))
