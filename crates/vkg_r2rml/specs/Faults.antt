-- The faults of a mapping as a set of pairs, the number of a triples map and that of a check that fails on it, and the
-- least of them.
use Rattle.std.specs.Prelude.{◌≡◌, ◌<◌, ◌≤◌, ◌⊎◌, ℕ, List, [], ◌∷◌, length, Option, Some, codes, map, Ok, Err}
use Rattle.std.specs.List.{Contains, enumerate_from}
use Rattle.vkg_terms.specs.declared.term.Term.{Term}
use Rattle.vkg_turtle.specs.declared.triple.Triple.{Triple}
use Rattle.vkg_schema.specs.declared.table.Table.{Table}
use Rattle.vkg_schema.specs.declared.table.Column.{Column}
use Rattle.vkg_maps.specs.declared.mapping.TriplesMap.{TriplesMap}
use Rattle.vkg_maps.specs.QuadRules.{quad_rules, rule_limit}
use Rattle.vkg_term_maps.specs.declared.place.Role.{Role}
use Rattle.vkg_term_maps.specs.declared.place.Role.TheVariants.{Subject, Predicate, Object, Graph}
use Rattle.vkg_term_maps.specs.declared.place.Place.{Place}
use Rattle.vkg_term_maps.specs.declared.place.Place.TheVariants.{Constant, Node}
use Rattle.vkg_term_maps.specs.Vocabulary.{rr}
use Rattle.vkg_term_maps.specs.Graph.{objects, places}
use Rattle.vkg_r2rml.specs.declared.map_node.MapNode.{MapNode}
use Rattle.vkg_r2rml.specs.declared.map_error.MapFault.{MapFault}
use Rattle.vkg_r2rml.specs.declared.map_error.MapError.{MapError}
use Rattle.vkg_r2rml.specs.declared.map_error.MapError.TheVariants.{Fault, Memory}
use Rattle.vkg_r2rml.specs.Checked.{Checked, both, all_of, exactly_one, at_least_one, resource}
use Rattle.vkg_r2rml.specs.ReferencingMap.{no_term_map, parent_of, table_of_parent, columns_of, column_if_known, side, comparable, same_table}
use Rattle.vkg_r2rml.specs.TriplesMap.{term_map, class, triples_map}
use Rattle.vkg_r2rml.specs.TriplesMaps.{triples_maps}
use Rattle.vkg_r2rml.specs.Mapping.{fault, in_order, map_limit}

-- ---- which check fails, of parts that are looked at one by one

-- the check fails on this part
abbrev pub Fails : {A : Type 0} → Checked A → ℕ → Type 0
Fails part check = part ≡ Err check

-- it fails on some of these
abbrev pub Among : {X : Type 0} → List X → (X → ℕ → Type 0) → ℕ → Type 0
Among xs P check = (x : _) × Contains xs x × P x check

-- it fails on what needs an earlier part, where no check of that failed
abbrev pub After : {A : Type 0} → Checked A → (A → ℕ → Type 0) → ℕ → Type 0
After part P check = (value : _) × (part ≡ Ok value) × P value check

-- ---- the checks of a triples map

-- R2RML, 7: on a term map (M11 to M16, M22)
abbrev pub OnTermMap : List Triple → List Column → List ℕ → Role → Place → ℕ → Type 0
OnTermMap triples columns base role p = Fails (term_map triples columns base role p)

-- R2RML, 9
abbrev pub OnGraphMaps : List Triple → List Column → List ℕ → Term → ℕ → Type 0
OnGraphMaps triples columns base node = Among (places triples node Graph) (OnTermMap triples columns base Graph)

-- R2RML, 6.2: on a class (M11)
abbrev pub OnClasses : List Triple → Term → ℕ → Type 0
OnClasses triples node = Among (objects triples node (rr (codes "class"))) (λ t. Fails (class t))

abbrev pub OnSubjectNode : List Triple → List Column → List ℕ → Place → ℕ → Type 0
OnSubjectNode triples columns base (Constant t) check = ⊥
OnSubjectNode triples columns base (Node node) check = OnClasses triples node check ⊎ OnGraphMaps triples columns base node check

abbrev pub OnSubjectMap : List Triple → List Column → List ℕ → Place → ℕ → Type 0
OnSubjectMap triples columns base p check = OnTermMap triples columns base Subject p check ⊎ OnSubjectNode triples columns base p check

-- R2RML, 6.1: exactly one subject map (M10)
abbrev pub OnSubject : List Triple → List Column → List ℕ → Term → ℕ → Type 0
OnSubject triples columns base m check =
    Fails (exactly_one 10 (places triples m Subject)) check
    ⊎ After (exactly_one 10 (places triples m Subject)) (OnSubjectMap triples columns base) check

-- R2RML, 6.3: at least one predicate map (M17)
abbrev pub OnPredicates : List Triple → List Column → List ℕ → Term → ℕ → Type 0
OnPredicates triples columns base node check =
    Fails (at_least_one 17 (places triples node Predicate)) check
    ⊎ Among (places triples node Predicate) (OnTermMap triples columns base Predicate) check

-- R2RML, 8: each value of rr:child or rr:parent names a column (M12), and there is exactly one (M19)
abbrev pub OnColumns : List Table → Option ℕ → List Term → ℕ → Type 0
OnColumns schema table values = Among values (λ t. Fails (column_if_known schema table t))

abbrev pub OnSide : List Table → Option ℕ → List Term → ℕ → Type 0
OnSide schema table values check =
    OnColumns schema table values check ⊎ After (all_of (map (column_if_known schema table) values)) (λ columns. Fails (exactly_one 19 columns)) check

-- R2RML, 8: a join condition has two sides, whose columns are of one family (M20)
abbrev pub OnCondition : List Triple → List Table → ℕ → Option ℕ → Term → ℕ → Type 0
OnCondition triples schema table parent node check =
    let children = objects triples node (rr (codes "child")) in
    let parents = objects triples node (rr (codes "parent")) in
    (OnSide schema (Some table) children check ⊎ OnSide schema parent parents check)
    ⊎ After (both (side schema (Some table) children) (side schema parent parents)) (λ p. Fails (comparable schema table parent p)) check

-- R2RML, 8: without a condition the parent's table is the child's (M19)
abbrev pub OnConditions : List Triple → List Table → ℕ → Option ℕ → List Term → ℕ → Type 0
OnConditions triples schema table parent [] = Fails (same_table table parent)
OnConditions triples schema table parent (node ∷ nodes) = Among (node ∷ nodes) (OnCondition triples schema table parent)

-- R2RML, 8: no constant, column or template (M11), one parent (M18), and conditions
abbrev pub OnReferencingMap : List Triple → List Table → List MapNode → ℕ → Term → List Term → ℕ → Type 0
OnReferencingMap triples schema maps table node parents check =
    Fails (no_term_map triples node) check
    ⊎ (Fails (parent_of maps parents) check
    ⊎ OnConditions triples schema table (table_of_parent maps (parent_of maps parents)) (objects triples node (rr (codes "joinCondition"))) check)

abbrev pub OnObjectNode : List Triple → List Table → List ℕ → List MapNode → ℕ → Term → List Term → ℕ → Type 0
OnObjectNode triples schema base maps table node [] = OnTermMap triples (columns_of schema table) base Object (Node node)
OnObjectNode triples schema base maps table node (p ∷ ps) = OnReferencingMap triples schema maps table node (p ∷ ps)

abbrev pub OnObjectMap : List Triple → List Table → List ℕ → List MapNode → ℕ → Place → ℕ → Type 0
OnObjectMap triples schema base maps table (Constant t) = OnTermMap triples (columns_of schema table) base Object (Constant t)
OnObjectMap triples schema base maps table (Node node) = OnObjectNode triples schema base maps table node (objects triples node (rr (codes "parentTriplesMap")))

-- R2RML, 6.3: at least one object map (M17)
abbrev pub OnObjects : List Triple → List Table → List ℕ → List MapNode → ℕ → Term → ℕ → Type 0
OnObjects triples schema base maps table node check =
    Fails (at_least_one 17 (places triples node Object)) check ⊎ Among (places triples node Object) (OnObjectMap triples schema base maps table) check

abbrev pub OnPair : List Triple → List Table → List ℕ → List MapNode → ℕ → Term → ℕ → Type 0
OnPair triples schema base maps table node check =
    OnPredicates triples (columns_of schema table) base node check
    ⊎ (OnObjects triples schema base maps table node check ⊎ OnGraphMaps triples (columns_of schema table) base node check)

-- R2RML, 6.3: a predicate-object map is no literal (M17)
abbrev pub OnPredicateObjectMap : List Triple → List Table → List ℕ → List MapNode → ℕ → Term → ℕ → Type 0
OnPredicateObjectMap triples schema base maps table t check = Fails (resource 17 t) check ⊎ After (resource 17 t) (OnPair triples schema base maps table) check

abbrev pub OnParts : List Triple → List Table → List ℕ → List MapNode → Term → ℕ → ℕ → Type 0
OnParts triples schema base maps m table check =
    OnSubject triples (columns_of schema table) base m check
    ⊎ Among (objects triples m (rr (codes "predicateObjectMap"))) (OnPredicateObjectMap triples schema base maps table) check

-- R2RML, 6: on the table (M06 to M09), and where that is known on the rest
abbrev pub OnTriplesMap : List Triple → List Table → List ℕ → List MapNode → MapNode → ℕ → Type 0
OnTriplesMap triples schema base maps m check = Fails m.table check ⊎ After m.table (OnParts triples schema base maps m.node) check

-- ---- the faults of a mapping

-- triples maps are counted from 1
pub record IsMapFault (triples : List Triple) (schema : List Table) (base : List ℕ) (maps : List MapNode) (f : MapFault) : Type 0 where
  pub node : MapNode
  pub is_map : Contains (enumerate_from 1 maps) (f.map, node)
  pub fails : OnTriplesMap triples schema base maps node f.check

-- by the triples map, then the check
abbrev pub Precedes : MapFault → MapFault → Type 0
Precedes f g = (f.map < g.map) ⊎ ((f.map ≡ g.map) × (f.check < g.check))

-- a fault that stands before every other
pub record IsLeastFault (triples : List Triple) (schema : List Table) (base : List ℕ) (maps : List MapNode) (f : MapFault) : Type 0 where
  pub is : IsMapFault triples schema base maps f
  pub first : (g : MapFault) → IsMapFault triples schema base maps g → (f ≡ g) ⊎ Precedes f g

-- no check fails on any triples map
abbrev pub IsFaultless : List Triple → List Table → List ℕ → List MapNode → Type 0
IsFaultless triples schema base maps = (f : MapFault) → IsMapFault triples schema base maps f → ⊥

-- what the triples maps of a graph say, one after another
abbrev pub AreTriplesMaps : List Triple → List Table → List ℕ → List TriplesMap → Type 0
AreTriplesMaps triples schema base maps = in_order 1 (map (triples_map triples schema base (triples_maps triples schema)) (triples_maps triples schema)) ≡ Ok maps

-- The fault of a graph: it has no triples map (M21) or too many (M22), or else the least on a triples map, or else there are
-- too many quad rules (M22).
pub data IsFaultOf (triples : List Triple) (schema : List Table) (base : List ℕ) : MapFault → Type 0 where
  no_map : triples_maps triples schema ≡ [] → IsFaultOf triples schema base (fault 21 0)
  many_maps : map_limit < length (triples_maps triples schema) → IsFaultOf triples schema base (fault 22 0)
  least : {f : MapFault} → length (triples_maps triples schema) ≤ map_limit → IsLeastFault triples schema base (triples_maps triples schema) f → IsFaultOf triples schema base f
  many_rules : (maps : List TriplesMap) → IsFaultless triples schema base (triples_maps triples schema) → AreTriplesMaps triples schema base maps → rule_limit < length (quad_rules (record { base = base; maps = maps })) → IsFaultOf triples schema base (fault 22 0)

-- want of memory is free
abbrev pub IsLeast : List Triple → List Table → List ℕ → MapError → Type 0
IsLeast triples schema base (Fault f) = IsFaultOf triples schema base f
IsLeast triples schema base Memory = Unit {0}
