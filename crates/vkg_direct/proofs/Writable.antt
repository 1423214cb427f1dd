-- Each term map of the direct mapping of a well-formed schema can be written.
use Rattle.std.proofs.Common.{◌≡◌, ◌∙◌, inl, inr, ℕ, List, [], ◌∷◌, ◌++◌, codes, map, flat_map, refl, ap, subst, true, not, Option, Some, None, Ok, IsUtf8}
use Rattle.std.specs.Prelude.{Contains, option_map, position, slice_get, unwrap_or}
use Rattle.std.specs.List.{enumerate_from, join_with_byte, list_all}
use Rattle.std.proofs.lemmas.List.Elements.{Contains-append_cases}
use Rattle.std.proofs.lemmas.List.Folds.{list_all-append}
use Rattle.std.proofs.lemmas.Str.{IsUtf8-nil, scalars-chars}
use Rattle.vkg_lists.proofs.Bools.{and_parts, and_true}
use Rattle.vkg_lists.proofs.Each.{recursion_get}
use Rattle.vkg_lists.proofs.Members.{Contains-from_map, each_from_recursion, recursion_from_each}
use Rattle.vkg_lists.proofs.Numbered.{numbered_place}
use Rattle.vkg_lists.proofs.Positions.{get_member}
use Rattle.vkg_terms.specs.Iri.{has_scheme, is_iri_character}
use Rattle.vkg_terms.specs.Safe.{safe}
use Rattle.vkg_terms.specs.Writable.{IsWritableAnnotation}
use Rattle.vkg_terms.proofs.SafeText.{safe_all}
use Rattle.vkg_cells.specs.declared.cell.SqlType.{SqlType}
use Rattle.vkg_cells.specs.declared.cell.SqlType.TheVariants as kind
use Rattle.vkg_cells.specs.Form.{natural}
use Rattle.vkg_schema.specs.declared.table.Column.{Column}
use Rattle.vkg_schema.specs.declared.table.Reference.{Reference}
use Rattle.vkg_schema.specs.declared.table.Table.{Table}
use Rattle.vkg_schema.specs.Meets.{IsColumn, IsTable, IsWellFormed}
use Rattle.vkg_maps.specs.declared.mapping.Mapping.{Mapping}
use Rattle.vkg_maps.specs.declared.mapping.PredicateObjectMap.{PredicateObjectMap}
use Rattle.vkg_maps.specs.declared.mapping.TriplesMap.{TriplesMap}
use Rattle.vkg_maps.specs.Writable.{HoldsWritable, IsWritablePair, IsWritableTriplesMap}
use Rattle.vkg_direct.specs.DirectGraph.{column_iri, column_name, reference_iri, table_iri}
use Rattle.vkg_direct.specs.DirectMapping.{column_property, direct, direct_map, has_primary_key, maps_of, properties_of, reference_property, unless_keyless, within_limit}
use Rattle.vkg_direct.specs.Within.{DirectIsWritable}
use Rattle.vkg_direct.proofs.Joined.{joined_is}
use Rattle.vkg_direct.proofs.RuleCount.{direct_of_limit}

-- what an IRI may hold
abbrev AllIri : List ℕ → Type 0
AllIri text = list_all is_iri_character text ≡ true

all_append : (a b : List ℕ) → AllIri a → AllIri b → AllIri (a ++ b)
all_append a b h g = list_all-append is_iri_character a b ∙ and_true (list_all is_iri_character a) (list_all is_iri_character b) h g

safe_iri : (text : List ℕ) → IsUtf8 text → AllIri (safe text)
safe_iri text u = safe_all text (scalars-chars text u)

natural_writable : (k : SqlType) → IsWritableAnnotation (natural k)
natural_writable kind.Text = tt
natural_writable kind.Int = refl
natural_writable kind.Dec = refl
natural_writable kind.Bool = refl
natural_writable kind.Date = refl
natural_writable kind.Stamp = refl
natural_writable kind.Bin = refl
natural_writable kind.Time = refl
natural_writable kind.Term = tt

module _ (base : List ℕ) (iri : AllIri base) (tables : List Table) (table : Table) (is : IsTable tables table) where
  name_text : (c : ℕ) → IsUtf8 (column_name table c)
  name_text c = of (slice_get table.columns c) (λ column e. (recursion_get IsColumn table.columns c column is.columns e).name)
    where
      of : (o : Option Column) → ((column : Column) → o ≡ Some column → IsUtf8 column.name) → IsUtf8 (unwrap_or (option_map (λ (c : Column). c.name) o) [])
      of None h = IsUtf8-nil
      of (Some column) h = h column refl

  of_table : AllIri (table_iri base table)
  of_table = all_append base (safe table.name) iri (safe_iri table.name is.name)

  of_column : (column : Column) → IsUtf8 column.name → AllIri (column_iri base table column)
  of_column column u = all_append (table_iri base table ++ codes "#") (safe column.name) (all_append (table_iri base table) (codes "#") of_table refl) (safe_iri column.name u)

  of_names : (ps : List (ℕ × ℕ)) → AllIri (flat_map (λ (p : ℕ × ℕ). 59 ∷ safe (column_name table p.0)) ps)
  of_names [] = refl
  of_names (p ∷ ps) = all_append (59 ∷ safe (column_name table p.0)) (flat_map (λ (p : ℕ × ℕ). 59 ∷ safe (column_name table p.0)) ps) (safe_iri (column_name table p.0) (name_text p.0)) (of_names ps)

  of_joined : (ps : List (ℕ × ℕ)) → AllIri (join_with_byte 59 (map (λ (p : ℕ × ℕ). safe (column_name table p.0)) ps))
  of_joined [] = refl
  of_joined (p ∷ ps) =
      ap (list_all is_iri_character) (joined_is 59 (λ (p : ℕ × ℕ). safe (column_name table p.0)) p ps)
      ∙ all_append (safe (column_name table p.0)) (flat_map (λ (p : ℕ × ℕ). 59 ∷ safe (column_name table p.0)) ps) (safe_iri (column_name table p.0) (name_text p.0)) (of_names ps)

  of_reference : (r : Reference) → AllIri (reference_iri base table r)
  of_reference r =
      all_append (table_iri base table ++ codes "#ref-") (join_with_byte 59 (map (λ (p : ℕ × ℕ). safe (column_name table p.0)) r.pairs)) (all_append (table_iri base table) (codes "#ref-") of_table refl) (of_joined r.pairs)

  pair_writable : (po : PredicateObjectMap) → Contains (properties_of base table) po → IsWritablePair po
  pair_writable po c = elim (Contains-append_cases (map (column_property base table) (enumerate_from 0 table.columns)) (map (reference_property base table) table.references) po c) [
    | inl d ↦
        let r = Contains-from_map (column_property base table) (enumerate_from 0 table.columns) po d in
        let column = recursion_get IsColumn table.columns r.0.0 r.0.1 is.columns (numbered_place table.columns r.0 r.1) in
        subst IsWritablePair r.2 (record { predicates = (of_column r.0.1 column.name, tt); objects = ((tt, natural_writable r.0.1.kind), tt); graphs = tt })
    | inr d ↦
        let r = Contains-from_map (reference_property base table) table.references po d in
        subst IsWritablePair r.2 (record { predicates = (of_reference r.0, tt); objects = (tt, tt); graphs = tt })
  ]

  map_writable : (k : ℕ) → IsWritableTriplesMap (direct_map base (k, table))
  map_writable k = record { subject = tt; classes = (of_table, tt); graphs = tt; predicate_objects = recursion_from_each IsWritablePair (properties_of base table) pair_writable }

maps_writable : (schema : List Table) (base : List ℕ) → IsWellFormed schema → AllIri base → HoldsWritable (direct schema base)
maps_writable schema base well iri = recursion_from_each IsWritableTriplesMap (maps_of base schema) each
  where
    each : (m : TriplesMap) → Contains (maps_of base schema) m → IsWritableTriplesMap m
    each m c =
        let r = Contains-from_map (direct_map base) (enumerate_from 0 schema) m c in
        let here = numbered_place schema r.0 r.1 in
        let is = each_from_recursion (IsTable schema) schema well r.0.1 (get_member schema r.0.0 r.0.1 here) in
        subst IsWritableTriplesMap r.2 (map_writable base iri schema r.0.1 is r.0.0)

pub direct_is_writable : (schema : List Table) (base : List ℕ) (mapping : Mapping) → DirectIsWritable schema base mapping
direct_is_writable schema base mapping well absolute e = keyed (position (λ t. not (has_primary_key t)) schema) e
  where
    keyed : (o : Option ℕ) → unless_keyless o (within_limit (direct schema base)) ≡ Ok mapping → HoldsWritable mapping
    keyed None e = subst HoldsWritable (direct_of_limit schema base mapping e) (maps_writable schema base well (and_parts (has_scheme base) (list_all is_iri_character base) absolute).1)
    keyed (Some place) e = cc
