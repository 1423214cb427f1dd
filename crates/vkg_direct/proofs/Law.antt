-- What the direct mapping of a schema with keys stands for.
use Rattle.std.proofs.Common.{◌≡◌, refl, ℕ, List, [], ◌∷◌, sym, ap, ◌∙◌, subst, map, flat_map, Option, Some, None, true, false, not, arith, inl, inr}
use Rattle.std.specs.Prelude.{Contains, position}
use Rattle.std.specs.List.{enumerate_from}
use Rattle.std.proofs.lemmas.List.Sums.{fails_before_first}
use Rattle.std.proofs.lemmas.List.Elements.{Contains-append_cases}
use Rattle.vkg_lists.proofs.Positions.{place_none}
use Rattle.vkg_lists.proofs.Nothing.{flat_map_nothing}
use Rattle.vkg_lists.proofs.Numbered.{numbered_member}
use Rattle.vkg_lists.proofs.Bools.{not_false}
use Rattle.vkg_terms.specs.Iri.{is_absolute}
use Rattle.vkg_schema.specs.declared.table.Table.{Table}
use Rattle.vkg_schema.specs.Rows.{Row, Database, rows_of}
use Rattle.vkg_schema.specs.Meets.{IsWellFormed, MeetsSchema}
use Rattle.vkg_maps.specs.declared.term_map.TermMap.{TermMap}
use Rattle.vkg_maps.specs.declared.mapping.PredicateObjectMap.{PredicateObjectMap}
use Rattle.vkg_lists.specs.Sets.{HasSameMembers}
use Rattle.vkg_maps.specs.Dataset.{dataset}
use Rattle.vkg_maps.specs.DataFaults.{term_faults, fault_at, faults_at, row_faults, map_faults, data_faults, term_maps, fault_of, pair_maps}
use Rattle.vkg_terms.specs.declared.term.Term.TheVariants.{Iri}
use Rattle.vkg_cells.specs.Form.{natural}
use Rattle.vkg_maps.specs.declared.term_map.TermMap.TheVariants as from
use Rattle.vkg_maps.specs.declared.term_map.TermType.TheVariants as sort
use Rattle.vkg_direct.specs.DirectGraph.{direct_graph, column_iri, reference_iri}
use Rattle.vkg_direct.specs.DirectMapping.{direct, direct_map, has_primary_key, column_property, reference_property, maps_of}
use Rattle.vkg_lists.proofs.Members.{Contains-none, Contains-cons_cases, Contains-from_map, Contains-from_flat_map}
use Rattle.vkg_direct.proofs.Whole.{AllMade, same_quads}
use Rattle.vkg_direct.proofs.AllMade.{all_made}

keyed : (tables : List Table) → position (λ t. not (has_primary_key t)) tables ≡ None → (t : Table) → Contains tables t → has_primary_key t ≡ true
keyed tables e t (k, l, i) =
    let n = place_none (λ t. not (has_primary_key t)) tables e in
    let f : not (has_primary_key t) ≡ false = ap (λ x. not (has_primary_key x)) (sym i) ∙ fails_before_first (λ t. not (has_primary_key t)) tables k t (omega (arith, l, n)) in
    not_false (has_primary_key t) f

pair_sound : (base : List ℕ) (row : Row) (a b t : Option TermMap) → Contains (a ∷ b ∷ []) t → term_faults base row a ≡ [] → term_faults base row b ≡ [] → term_faults base row t ≡ []
pair_sound base row a b t c x y = elim (Contains-cons_cases a (b ∷ []) t c) [
  | inl e ↦ ap (term_faults base row) (sym e) ∙ x
  | inr d ↦ elim (Contains-cons_cases b [] t d) [ inl e ↦ ap (term_faults base row) (sym e) ∙ y | inr f ↦ absurd (Contains-none t f) ]
]

module _ (base : List ℕ) (tables : List Table) (db : Database) (made : AllMade base tables db) where
  -- what a term map of the direct mapping makes of a row of its table is no fault
  module _ (kt : ℕ × Table) (h : Contains (enumerate_from 0 tables) kt) (row : Row) (r : Contains (rows_of db kt.0) row) where
    by_property : (po : PredicateObjectMap) → Contains (direct_map base kt).predicate_objects po → (t : Option TermMap) → Contains (pair_maps po) t → term_faults base row t ≡ []
    by_property po is t c = elim (Contains-append_cases (map (column_property base kt.1) (enumerate_from 0 kt.1.columns)) (map (reference_property base kt.1) kt.1.references) po is) [
      | inl d ↦
          let b = Contains-from_map (column_property base kt.1) (enumerate_from 0 kt.1.columns) po d in
          pair_sound base row (Some (from.Constant (Iri (column_iri base kt.1 b.0.1)))) (Some (from.Column b.0.0 (sort.Literal (natural b.0.1.kind)))) t (subst (λ po. Contains (pair_maps po) t) (sym b.2) c) refl (ap fault_of ((made kt h row r).literals b.0 b.1))
      | inr d ↦
          let b = Contains-from_map (reference_property base kt.1) kt.1.references po d in
          pair_sound base row (Some (from.Constant (Iri (reference_iri base kt.1 b.0)))) None t (subst (λ po. Contains (pair_maps po) t) (sym b.2) c) refl refl
    ]

    term_sound : (t : Option TermMap) → Contains (term_maps (direct_map base kt)) t → term_faults base row t ≡ []
    term_sound t c = elim (Contains-cons_cases (Some (direct_map base kt).subject) (flat_map pair_maps (direct_map base kt).predicate_objects) t c) [
      | inl e ↦ ap (term_faults base row) (sym e) ∙ ap fault_of (made kt h row r).node
      | inr d ↦ let b = Contains-from_flat_map pair_maps (direct_map base kt).predicate_objects t d in by_property b.0 b.1 t b.2
    ]

    row_sound : (k n : ℕ) → row_faults base (term_maps (direct_map base kt)) k (n, row) ≡ []
    row_sound k n = flat_map_nothing (faults_at base k (n, row)) (enumerate_from 0 (term_maps (direct_map base kt))) (λ t c. ap (map (fault_at k n t.0)) (term_sound t.1 (numbered_member 0 (term_maps (direct_map base kt)) t c)))

  map_sound : (kt : ℕ × Table) → Contains (enumerate_from 0 tables) kt → (k : ℕ) → map_faults base db (k, direct_map base kt) ≡ []
  map_sound kt h k = flat_map_nothing (row_faults base (term_maps (direct_map base kt)) k) (enumerate_from 1 (rows_of db kt.0)) (λ r c. row_sound kt h r.1 (numbered_member 1 (rows_of db kt.0) r c) k r.0)

  pub faultless : data_faults (direct tables base) db ≡ []
  faultless = flat_map_nothing (map_faults base db) (enumerate_from 1 (maps_of base tables)) (λ m c.
      let b = Contains-from_map (direct_map base) (enumerate_from 0 tables) m.1 (numbered_member 1 (maps_of base tables) m c) in
      ap (λ x. map_faults base db (m.0, x)) (sym b.2) ∙ map_sound b.0 b.1 m.0)

module _ (base : List ℕ) (tables : List Table) (absolute : is_absolute base ≡ true) (well : IsWellFormed tables) (keys : position (λ t. not (has_primary_key t)) tables ≡ None) (db : Database) (meets : MeetsSchema tables db) where
  -- the dataset of the direct mapping is the direct graph
  pub direct_graph_is : HasSameMembers (dataset (direct tables base) db) (direct_graph tables base db)
  direct_graph_is = same_quads base tables db well (all_made base tables db absolute well meets (keyed tables keys))

  pub direct_faultless : data_faults (direct tables base) db ≡ []
  direct_faultless = faultless base tables db (all_made base tables db absolute well meets (keyed tables keys))
