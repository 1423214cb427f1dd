-- The direct mapping of a well-formed schema is within it.
use Rattle.std.proofs.Common.{◌≡◌, ◌∙◌, ℕ, ◌<◌, inl, inr, List, [], ◌∷◌, map, length, refl, sym, ap, subst}
use Rattle.std.specs.Prelude.{◌≢◌, not, position, Ok, Option, Some, None, option_map, unwrap_or, slice_get, IfSome, flat_map, find, codes, Contains}
use Rattle.std.specs.List.{AllByRecursion, enumerate_from}
use Rattle.std.proofs.lemmas.List.{length-map}
use Rattle.std.proofs.lemmas.Option.{none-some, slice_get-map, slice_get_within}
use Rattle.vkg_lists.proofs.Numbered.{numbered_place}
use Rattle.vkg_lists.proofs.Positions.{get_below, get_member}
use Rattle.vkg_lists.specs.Lists.{AllBelow}
use Rattle.vkg_lists.proofs.Members.{each_from_recursion, recursion_from_each, Contains-from_map}
use Rattle.std.proofs.lemmas.List.Elements.{Contains-append_cases}
use Rattle.std.proofs.lemmas.List.FromFn.{length-enumerate_from}
use Rattle.std.proofs.lemmas.Bool.{cond_both}
use Rattle.vkg_cells.specs.declared.cell.SqlType.{SqlType}
use Rattle.vkg_cells.specs.Order.{family}
use Rattle.vkg_schema.specs.declared.table.Column.{Column}
use Rattle.vkg_schema.specs.declared.table.Key.{Key}
use Rattle.vkg_schema.specs.declared.table.Reference.{Reference}
use Rattle.vkg_schema.specs.declared.table.Table.{Table}
use Rattle.vkg_schema.specs.Meets.{Comparable, IsKey, IsReference, IsTable, IsWellFormed, RefersTo}
use Rattle.vkg_maps.specs.declared.mapping.ObjectMap.TheVariants.{Parent}
use Rattle.vkg_maps.specs.declared.mapping.PredicateObjectMap.{PredicateObjectMap}
use Rattle.vkg_maps.specs.declared.mapping.TriplesMap.{TriplesMap}
use Rattle.vkg_maps.specs.declared.mapping.Mapping.{Mapping}
use Rattle.vkg_maps.specs.QuadRules.{parent_of}
use Rattle.vkg_direct.specs.DirectGraph.{primary_key}
use Rattle.vkg_direct.specs.DirectMapping.{column_property, direct, direct_map, has_primary_key, key_pieces, maps_of, node_pieces, properties_of, reference_property, unless_keyless, within_limit}
use Rattle.vkg_maps.specs.Within.{kinds_at, AreConditions, IsCondition, IsMapWithin, IsObjectWithin, IsPairWithin, IsWithin, piece_columns}
use Rattle.vkg_maps.proofs.TableKinds.{kinds_of}
use Rattle.vkg_direct.specs.Within.{DirectIsWithin}
use Rattle.vkg_direct.proofs.RuleCount.{direct_of_limit}
use Rattle.vkg_direct.proofs.Whole.{parent_at}

-- ---- places that are below a bound

module _ (table : Table) where
  abbrev ks : List SqlType
  ks = map (λ (c : Column). c.kind) table.columns

  later_pieces : (n : ℕ) (cs : List ℕ) → AllBelow n cs → AllBelow n (flat_map piece_columns (flat_map (node_pieces table (codes ";")) cs))
  later_pieces n [] h = tt
  later_pieces n (c ∷ cs) h = (h.0, later_pieces n cs h.1)

  pieces_below : (n : ℕ) (cs : List ℕ) → AllBelow n cs → AllBelow n (flat_map piece_columns (key_pieces table cs))
  pieces_below n [] h = tt
  pieces_below n (c ∷ cs) h = (h.0, later_pieces n cs h.1)

  found_below : (keys : List Key) → AllByRecursion (IsKey table) keys → AllBelow (length table.columns) (unwrap_or (option_map (λ (k : Key). k.columns) (find (λ (k : Key). k.primary) keys)) [])
  found_below [] h = tt
  found_below (k ∷ keys) h =
      cond_both k.primary (Some k) (find (λ (k : Key). k.primary) keys) (λ (o : Option Key). AllBelow (length table.columns) (unwrap_or (option_map (λ (k : Key). k.columns) o) []))
      (λ _. h.0.columns) (λ _. found_below keys h.1)

module _ (base : List ℕ) (schema : List Table) (well : IsWellFormed schema) where
  abbrev maps : List TriplesMap
  maps = maps_of base schema

  module _ (k : ℕ) (t : Table) (here : slice_get schema k ≡ Some t) (fine : IsTable schema t) where
    abbrev m : TriplesMap
    m = direct_map base (k, t)

    width : length t.columns ≡ length (kinds_at schema k)
    width = sym (length-map t.columns (λ (c : Column). c.kind)) ∙ ap length (sym (kinds_of schema k t here))

    -- an expression over the columns of a table is over the kinds
    kind_there : (k : ℕ) (t : Table) → slice_get schema k ≡ Some t → (at : ℕ) → slice_get (kinds_at schema k) at ≡ option_map (λ (c : Column). c.kind) (slice_get t.columns at)
    kind_there k t e at = ap (λ ks. slice_get ks at) (kinds_of schema k t e) ∙ slice_get-map (λ (c : Column). c.kind) t.columns at

    comparable_kinds : (other : ℕ) (u : Table) → slice_get schema other ≡ Some u → (p : ℕ × ℕ) → Comparable t u p →
        IfSome (slice_get (kinds_at schema k) p.0) (λ c. IfSome (slice_get (kinds_at schema other) p.1) (λ d. family c ≡ family d))
    comparable_kinds other u e p h =
        subst (λ o. IfSome o (λ c. IfSome (slice_get (kinds_at schema other) p.1) (λ d. family c ≡ family d))) (sym (kind_there k t here p.0))
        (subst (λ o. IfSome (option_map (λ (c : Column). c.kind) (slice_get t.columns p.0)) (λ c. IfSome o (λ d. family c ≡ family d))) (sym (kind_there other u e p.1))
        (of (slice_get t.columns p.0) (slice_get u.columns p.1) h))
      where
        of : (o q : Option Column) → IfSome o (λ (c : Column). IfSome q (λ (d : Column). family c.kind ≡ family d.kind)) →
            IfSome (option_map (λ (c : Column). c.kind) o) (λ c. IfSome (option_map (λ (c : Column). c.kind) q) (λ d. family c ≡ family d))
        of None q h = tt
        of (Some c) None h = tt
        of (Some c) (Some d) h = h

    conditions_are : (other : ℕ) (u : Table) → slice_get schema other ≡ Some u → (ps : List (ℕ × ℕ)) → AllBelow (length t.columns) (map (λ (p : ℕ × ℕ). p.0) ps) → AllBelow (length u.columns) (map (λ (p : ℕ × ℕ). p.1) ps) → AllByRecursion (Comparable t u) ps →
        AllByRecursion (IsCondition (kinds_at schema k) (kinds_at schema other)) ps
    conditions_are other u e [] h i j = tt
    conditions_are other u e (p ∷ ps) h i j = (
      record {
        of_child = subst (λ n. p.0 < n) width h.0;
        of_parent = subst (λ n. p.1 < n) (sym (length-map u.columns (λ (c : Column). c.kind)) ∙ ap length (sym (kinds_of schema other u e))) i.0;
        comparable = comparable_kinds other u e p j.0;
      },
      conditions_are other u e ps h.1 i.1 j.1,
    )

    some_conditions : (child parent : ℕ) (ps : List (ℕ × ℕ)) → ps ≢ [] → AllByRecursion (IsCondition (kinds_at schema child) (kinds_at schema parent)) ps → AreConditions schema child parent ps
    some_conditions child parent [] n h = absurd (n refl)
    some_conditions child parent (p ∷ ps) n h = h

    reference_within : (r : Reference) → IsReference schema t r → IsObjectWithin schema maps m (Parent r.table r.pairs)
    reference_within r h = of (slice_get schema r.table) refl h.target
      where
        inside : r.table < length maps
        inside = subst (λ n. r.table < n) (sym (length-map (enumerate_from 0 schema) (direct_map base) ∙ length-enumerate_from 0 schema)) h.inside

        of : (o : Option Table) → slice_get schema r.table ≡ o → IfSome o (λ u. RefersTo r u × AllByRecursion (Comparable t u) r.pairs) → (r.table < length maps) × AreConditions schema k (parent_of maps m r.table).table r.pairs
        of None e g = let there = get_below schema r.table h.inside in absurd (none-some there.0 (sym e ∙ there.1))
        of (Some u) e g =
            let table : r.table ≡ (parent_of maps m r.table).table = ap (λ (p : TriplesMap). p.table) (sym (parent_at base schema m r.table u e)) in
            (inside, subst (λ n. AreConditions schema k n r.pairs) table (some_conditions k r.table r.pairs g.0.some (conditions_are r.table u e r.pairs h.children g.0.parents g.1)))

    pair_within : (po : PredicateObjectMap) → Contains (properties_of base t) po → IsPairWithin schema maps m po
    pair_within po c = elim (Contains-append_cases (map (column_property base t) (enumerate_from 0 t.columns)) (map (reference_property base t) t.references) po c) [
      | inl d ↦
          let r = Contains-from_map (column_property base t) (enumerate_from 0 t.columns) po d in
          let l : r.0.0 < length t.columns = slice_get_within t.columns r.0.0 r.0.1 (numbered_place t.columns r.0 r.1) in
          subst (IsPairWithin schema maps m) r.2 (record {
            predicates = (record { columns = tt; narrow = refl }, tt);
            objects = (record { columns = (subst (λ n. r.0.0 < n) width l, tt); narrow = refl }, tt);
            graphs = tt;
          })
      | inr d ↦
          let r = Contains-from_map (reference_property base t) t.references po d in
          subst (IsPairWithin schema maps m) r.2 (record {
            predicates = (record { columns = tt; narrow = refl }, tt);
            objects = (reference_within r.0 (each_from_recursion (IsReference schema t) t.references fine.references r.0 r.1), tt);
            graphs = tt;
          })
    ]

    map_within : IsMapWithin schema maps m
    map_within = record {
      table = slice_get_within schema k t here;
      subject = record { columns = pieces_below t (length (kinds_at schema k)) (primary_key t) (subst (λ n. AllBelow n (primary_key t)) width (found_below t t.keys fine.keys)); narrow = refl };
      graphs = tt;
      predicate_objects = recursion_from_each (IsPairWithin schema maps m) (properties_of base t) pair_within;
    }

  pub maps_within : IsWithin schema (direct schema base)
  maps_within = recursion_from_each (IsMapWithin schema maps) maps each
    where
      each : (m : TriplesMap) → Contains maps m → IsMapWithin schema maps m
      each m c =
          let r = Contains-from_map (direct_map base) (enumerate_from 0 schema) m c in
          let here = numbered_place schema r.0 r.1 in
          subst (IsMapWithin schema maps) r.2 (map_within r.0.0 r.0.1 here (each_from_recursion (IsTable schema) schema well r.0.1 (get_member schema r.0.0 r.0.1 here)))

pub direct_is_within : (schema : List Table) (base : List ℕ) (mapping : Mapping) → DirectIsWithin schema base mapping
direct_is_within schema base mapping well e = keyed (position (λ t. not (has_primary_key t)) schema) e
  where
    keyed : (o : Option ℕ) → unless_keyless o (within_limit (direct schema base)) ≡ Ok mapping → IsWithin schema mapping
    keyed None e = subst (IsWithin schema) (direct_of_limit schema base mapping e) (maps_within base schema well)
    keyed (Some place) e = cc
