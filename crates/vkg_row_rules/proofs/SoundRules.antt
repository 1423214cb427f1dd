-- What is known of the quad rules of a mapping that is within its schema.
use Rattle.std.proofs.Common.{◌≡◌, ℕ, ◌<◌, ◌⊎◌, inl, inr, ⊎_elim, List, [], ◌∷◌, ◌++◌, map, length, refl, sym, subst}
use Rattle.std.specs.Prelude.{Option, Some, None, IfSome, Contains, flat_map, slice_get, unwrap_or}
use Rattle.std.specs.List.{AllByRecursion}
use Rattle.std.proofs.lemmas.List.Elements.{Contains-append_cases, Contains-append_left, Contains-append_right}
use Rattle.vkg_lists.proofs.Positions.{get_member}
use Rattle.vkg_lists.proofs.Members.{Contains-none, Contains-here, Contains-there, Contains-cons_cases, Contains-map, Contains-from_map, Contains-flat_map, Contains-from_flat_map, each_from_recursion, recursion_from_each}
use Rattle.vkg_terms.specs.declared.term.Term.TheVariants.{Iri}
use Rattle.vkg_terms.specs.Vocabulary.{rdf_type}
use Rattle.vkg_maps.specs.declared.mapping.Mapping.{Mapping}
use Rattle.vkg_maps.specs.declared.mapping.ObjectMap.{ObjectMap}
use Rattle.vkg_maps.specs.declared.mapping.ObjectMap.TheVariants as object
use Rattle.vkg_maps.specs.declared.mapping.PredicateObjectMap.{PredicateObjectMap}
use Rattle.vkg_maps.specs.declared.mapping.TriplesMap.{TriplesMap}
use Rattle.vkg_maps.specs.declared.quad_rule.Join.{Join}
use Rattle.vkg_maps.specs.declared.quad_rule.QuadRule.{QuadRule}
use Rattle.vkg_maps.specs.declared.term_map.TermMap.{TermMap}
use Rattle.vkg_maps.specs.declared.term_map.TermMap.TheVariants.{Constant}
use Rattle.vkg_maps.specs.DataFaults.{asked, term_maps, pair_maps}
use Rattle.vkg_maps.specs.QuadRules.{class_map, map_rules, object_rule, parent_of, predicate_object_rules, quad_rules, targets}
use Rattle.vkg_plan.specs.Kinds.{Tables}
use Rattle.vkg_row_rules.specs.RowRules.{AreOver, IsRuleOver, object_kinds}
use Rattle.vkg_maps.specs.Within.{AreConditions, IsCondition, IsMapWithin, IsObjectWithin, IsOver, IsPairWithin, IsWithin, kinds_at}

-- the table whose rows give the object
abbrev pub object_table : ℕ → Option Join → ℕ
object_table table None = table
object_table table (Some join) = join.table

-- the parent's table and the columns of the conditions are there
abbrev pub AreJoined : Tables → ℕ → Option Join → Type 0
AreJoined schema table o = IfSome o (λ join. (join.table < length schema) × AllByRecursion (IsCondition (kinds_at schema table) (kinds_at schema join.table)) join.conditions)

-- what holds of the term maps of a rule, each over its table
pub record OfRule (P : ℕ → TermMap → Type 0) (schema : Tables) (rule : QuadRule) : Type 0 where
  pub table : rule.table < length schema
  pub subject : P rule.table rule.subject
  pub predicate : P rule.table rule.predicate
  pub object : P (object_table rule.table rule.join) rule.object
  pub graph : IfSome rule.graph (P rule.table)
  pub joined : AreJoined schema rule.table rule.join

-- ---- places in lists

parent_is : (maps : List TriplesMap) (m : TriplesMap) (k : ℕ) → Contains maps m → Contains maps (parent_of maps m k)
parent_is maps m k c = of (slice_get maps k) refl
  where
    of : (o : Option TriplesMap) → slice_get maps k ≡ o → Contains maps (unwrap_or o m)
    of None e = c
    of (Some p) e = get_member maps k p e

target_is : (gs : List TermMap) (t : Option TermMap) → Contains (targets gs) t → (t ≡ None) ⊎ ((g : TermMap) × Contains gs g × (t ≡ Some g))
target_is [] t c = ⊎_elim (λ e. inl (sym e)) (λ d. absurd (Contains-none t d)) (Contains-cons_cases None [] t c)
target_is (g ∷ gs) t c = let r = Contains-from_map Some (g ∷ gs) t c in inr (r.0, r.1, sym r.2)

-- ---- the term maps of a triples map

module _ (m : TriplesMap) where
  abbrev later : List (Option TermMap)
  later = map Some m.graphs ++ flat_map pair_maps m.predicate_objects

  is_subject : Contains (term_maps m) (Some m.subject)
  is_subject = Contains-here (Some m.subject) later

  is_graph : (g : TermMap) → Contains m.graphs g → Contains (term_maps m) (Some g)
  is_graph g c = Contains-there (Some m.subject) later (Some g) (Contains-append_left (map Some m.graphs) (flat_map pair_maps m.predicate_objects) (Some g) (Contains-map Some m.graphs g c))

  module _ (po : PredicateObjectMap) (c : Contains m.predicate_objects po) where
    of_pair : (t : Option TermMap) → Contains (pair_maps po) t → Contains (term_maps m) t
    of_pair t d = Contains-there (Some m.subject) later t (Contains-append_right (map Some m.graphs) (flat_map pair_maps m.predicate_objects) t (Contains-flat_map pair_maps m.predicate_objects po t c d))

    is_predicate : (p : TermMap) → Contains po.predicates p → Contains (term_maps m) (Some p)
    is_predicate p d = of_pair (Some p) (Contains-append_left (map Some po.predicates ++ map asked po.objects) (map Some po.graphs) (Some p)
        (Contains-append_left (map Some po.predicates) (map asked po.objects) (Some p) (Contains-map Some po.predicates p d)))

    is_object : (t : TermMap) → Contains po.objects (object.Term t) → Contains (term_maps m) (Some t)
    is_object t d = of_pair (Some t) (Contains-append_left (map Some po.predicates ++ map asked po.objects) (map Some po.graphs) (Some t)
        (Contains-append_right (map Some po.predicates) (map asked po.objects) (Some t) (Contains-map asked po.objects (object.Term t) d)))

    is_pair_graph : (g : TermMap) → Contains po.graphs g → Contains (term_maps m) (Some g)
    is_pair_graph g d = of_pair (Some g) (Contains-append_right (map Some po.predicates ++ map asked po.objects) (map Some po.graphs) (Some g) (Contains-map Some po.graphs g d))

-- each is over the table's columns
module _ (schema : Tables) (maps : List TriplesMap) (m : TriplesMap) (within : IsMapWithin schema maps m) where
  abbrev Over : TermMap → Type 0
  Over t = IsOver (kinds_at schema m.table) t

  some_over : (ts : List TermMap) → AllByRecursion Over ts → (t : TermMap) → Contains (map Some ts) (Some t) → Over t
  some_over ts h t c = let r = Contains-from_map Some ts (Some t) c in each_from_recursion Over ts h t (subst (Contains ts) (let e : r.0 ≡ t = cc in e) r.1)

  asked_over : (os : List ObjectMap) → AllByRecursion (IsObjectWithin schema maps m) os → (t : TermMap) → Contains (map asked os) (Some t) → Over t
  asked_over os h t c = let r = Contains-from_map asked os (Some t) c in of r.0 (each_from_recursion (IsObjectWithin schema maps m) os h r.0 r.1) r.2
    where
      of : (o : ObjectMap) → IsObjectWithin schema maps m o → asked o ≡ Some t → Over t
      of (object.Term s) h e = let f : s ≡ t = cc in subst Over f h
      of (object.Parent k cs) h e = cc

  pair_over : (po : PredicateObjectMap) → IsPairWithin schema maps m po → (t : TermMap) → Contains (pair_maps po) (Some t) → Over t
  pair_over po h t c = ⊎_elim
      (λ d. ⊎_elim (some_over po.predicates h.predicates t) (asked_over po.objects h.objects t) (Contains-append_cases (map Some po.predicates) (map asked po.objects) (Some t) d))
      (some_over po.graphs h.graphs t)
      (Contains-append_cases (map Some po.predicates ++ map asked po.objects) (map Some po.graphs) (Some t) c)

  pub listed_over : (t : TermMap) → Contains (term_maps m) (Some t) → Over t
  listed_over t c = ⊎_elim
      (λ e. let f : m.subject ≡ t = cc in subst Over f within.subject)
      (λ d. ⊎_elim (some_over m.graphs within.graphs t)
      (λ p. let r = Contains-from_flat_map pair_maps m.predicate_objects (Some t) p in
      pair_over r.0 (each_from_recursion (IsPairWithin schema maps m) m.predicate_objects within.predicate_objects r.0 r.1) t r.2)
      (Contains-append_cases (map Some m.graphs) (flat_map pair_maps m.predicate_objects) (Some t) d))
      (Contains-cons_cases (Some m.subject) (later m) (Some t) c)

-- ---- what holds of IRIs and of the term maps of all triples maps holds of the term maps of all rules

module _ (P : ℕ → TermMap → Type 0) (schema : Tables) (mapping : Mapping) (within : IsWithin schema mapping) (of_iri : (table : ℕ) (iri : List ℕ) → P table (Constant (Iri iri)))
    (of_map : (m : TriplesMap) → Contains mapping.maps m → (t : TermMap) → Contains (term_maps m) (Some t) → P m.table t) where
  abbrev Holds : QuadRule → Type 0
  Holds = OfRule P schema

  module _ (m : TriplesMap) (is_map : Contains mapping.maps m) where
    -- what holds of a predicate-object map
    record OfPair (po : PredicateObjectMap) : Type 0 where
      predicates : (p : TermMap) → Contains po.predicates p → P m.table p
      objects : (t : TermMap) → Contains po.objects (object.Term t) → P m.table t
      parents : (k : ℕ) (cs : List (ℕ × ℕ)) → Contains po.objects (object.Parent k cs) → AreConditions schema m.table (parent_of mapping.maps m k).table cs
      graphs : (g : TermMap) → Contains po.graphs g → P m.table g

    of_classes : OfPair (class_map m)
    of_classes = record {
      predicates = λ p c. ⊎_elim (λ e. subst (P m.table) e (of_iri m.table rdf_type)) (λ d. absurd (Contains-none p d)) (Contains-cons_cases (Constant (Iri rdf_type)) [] p c);
      objects = λ t c.
          let r = Contains-from_map (λ (class : List ℕ). object.Term (Constant (Iri class))) m.classes (object.Term t) c in
          subst (P m.table) (term_is (Constant (Iri r.0)) t r.2) (of_iri m.table r.0);
      parents = λ k cs c. let r = Contains-from_map (λ (class : List ℕ). object.Term (Constant (Iri class))) m.classes (object.Parent k cs) c in absurd (no_parent (Constant (Iri r.0)) k cs r.2);
      graphs = λ g c. absurd (Contains-none g c);
    }
      where
        term_is : (s t : TermMap) → object.Term s ≡ object.Term t → s ≡ t
        term_is s t e = cc

        no_parent : (s : TermMap) (k : ℕ) (cs : List (ℕ × ℕ)) → object.Term s ≡ object.Parent k cs → ⊥
        no_parent s k cs e = cc

    of_listed : (po : PredicateObjectMap) → Contains m.predicate_objects po → OfPair po
    of_listed po c = record {
      predicates = λ p d. of_map m is_map p (is_predicate m po c p d);
      objects = λ t d. of_map m is_map t (is_object m po c t d);
      parents = λ k cs d. (each_from_recursion (IsObjectWithin schema mapping.maps m) po.objects
          (each_from_recursion (IsPairWithin schema mapping.maps m) m.predicate_objects (each_from_recursion (IsMapWithin schema mapping.maps) mapping.maps within m is_map).predicate_objects po c).objects (object.Parent k cs) d).1;
      graphs = λ g d. of_map m is_map g (is_pair_graph m po c g d);
    }

    of_target : (po : PredicateObjectMap) → OfPair po → (g : Option TermMap) → Contains (targets (m.graphs ++ po.graphs)) g → IfSome g (P m.table)
    of_target po h g c = elim (target_is (m.graphs ++ po.graphs) g c) [
      | inl e ↦ subst (λ o. IfSome o (P m.table)) (sym e) tt
      | inr r ↦ subst (λ o. IfSome o (P m.table)) (sym r.2) (⊎_elim (λ d. of_map m is_map r.0 (is_graph m r.0 d)) (h.graphs r.0) (Contains-append_cases m.graphs po.graphs r.0 r.1))
    ]

    of_object : (p : TermMap) (g : Option TermMap) → P m.table p → IfSome g (P m.table) → (o : ObjectMap) →
        ((t : TermMap) → o ≡ object.Term t → P m.table t) → ((k : ℕ) (cs : List (ℕ × ℕ)) → o ≡ object.Parent k cs → AreConditions schema m.table (parent_of mapping.maps m k).table cs) →
        Holds (object_rule mapping.maps m p o g)
    of_object p g hp hg (object.Term t) term parent = record {
      table = (each_from_recursion (IsMapWithin schema mapping.maps) mapping.maps within m is_map).table;
      subject = of_map m is_map m.subject (is_subject m);
      predicate = hp;
      object = term t refl;
      graph = hg;
      joined = tt;
    }
    of_object p g hp hg (object.Parent k cs) term parent = of cs (parent k cs refl)
      where
        above : TriplesMap
        above = parent_of mapping.maps m k

        above_is : Contains mapping.maps above
        above_is = parent_is mapping.maps m k is_map

        above_subject : P above.table above.subject
        above_subject = of_map above above_is above.subject (is_subject above)

        of : (cs : List (ℕ × ℕ)) → AreConditions schema m.table above.table cs → Holds (object_rule mapping.maps m p (object.Parent k cs) g)
        of [] h = record {
          table = (each_from_recursion (IsMapWithin schema mapping.maps) mapping.maps within m is_map).table;
          subject = of_map m is_map m.subject (is_subject m);
          predicate = hp;
          object = subst (λ table. P table above.subject) h above_subject;
          graph = hg;
          joined = tt;
        }
        of (c ∷ cs) h = record {
          table = (each_from_recursion (IsMapWithin schema mapping.maps) mapping.maps within m is_map).table;
          subject = of_map m is_map m.subject (is_subject m);
          predicate = hp;
          object = above_subject;
          graph = hg;
          joined = ((each_from_recursion (IsMapWithin schema mapping.maps) mapping.maps within above above_is).table, h);
        }

    of_pair_rules : (po : PredicateObjectMap) → OfPair po → (rule : QuadRule) → Contains (predicate_object_rules mapping.maps m po) rule → Holds rule
    of_pair_rules po h rule c =
        let p = Contains-from_flat_map (λ p. flat_map (λ o. map (object_rule mapping.maps m p o) (targets (m.graphs ++ po.graphs))) po.objects) po.predicates rule c in
        let o = Contains-from_flat_map (λ o. map (object_rule mapping.maps m p.0 o) (targets (m.graphs ++ po.graphs))) po.objects rule p.2 in
        let g = Contains-from_map (object_rule mapping.maps m p.0 o.0) (targets (m.graphs ++ po.graphs)) rule o.2 in
        subst Holds g.2
        (of_object p.0 g.0 (h.predicates p.0 p.1) (of_target po h g.0 g.1) o.0
        (λ t e. h.objects t (subst (Contains po.objects) e o.1)) (λ k cs e. h.parents k cs (subst (Contains po.objects) e o.1)))

    of_map_rules : (rule : QuadRule) → Contains (map_rules mapping.maps m) rule → Holds rule
    of_map_rules rule c =
        let po = Contains-from_flat_map (predicate_object_rules mapping.maps m) (class_map m ∷ m.predicate_objects) rule c in
        of_pair_rules po.0 (⊎_elim (λ e. subst OfPair e of_classes) (of_listed po.0) (Contains-cons_cases (class_map m) m.predicate_objects po.0 po.1)) rule po.2

  pub of_rules : (rule : QuadRule) → Contains (quad_rules mapping) rule → Holds rule
  of_rules rule c = let m = Contains-from_flat_map (map_rules mapping.maps) mapping.maps rule c in of_map_rules m.0 m.1 rule m.2

-- each term map of a rule is over its table's columns
pub rules_within : (schema : Tables) (mapping : Mapping) → IsWithin schema mapping → (rule : QuadRule) → Contains (quad_rules mapping) rule → OfRule (λ table t. IsOver (kinds_at schema table) t) schema rule
rules_within schema mapping within = of_rules (λ table t. IsOver (kinds_at schema table) t) schema mapping within
    (λ table iri. record { columns = tt; narrow = refl })
    (λ m c t d. listed_over schema mapping.maps m (each_from_recursion (IsMapWithin schema mapping.maps) mapping.maps within m c) t d)

-- so that each has its place among the columns
rule_over : (schema : Tables) (rule : QuadRule) → OfRule (λ table t. IsOver (kinds_at schema table) t) schema rule → IsRuleOver schema rule
rule_over schema rule h = record { subject = h.subject; predicate = h.predicate; object = of rule.join h.object; graph = h.graph }
  where
    of : (join : Option Join) → IsOver (kinds_at schema (object_table rule.table join)) rule.object → IsOver (object_kinds schema (kinds_at schema rule.table) join) rule.object
    of None o = o
    of (Some join) o = o

pub rules_over : (schema : Tables) (mapping : Mapping) → IsWithin schema mapping → AreOver schema (quad_rules mapping)
rules_over schema mapping within = recursion_from_each (IsRuleOver schema) (quad_rules mapping) (λ rule c. rule_over schema rule (rules_within schema mapping within rule c))
