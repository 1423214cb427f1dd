-- The dataset of the direct mapping is the direct graph, where each term map makes its term.
use Rattle.std.proofs.Common.{◌≡◌, ℕ, ◌+◌, ◌≢◌, List, [], sym, ap, ◌∙◌, subst, flat_map, Option, Some, arith}
use Rattle.std.specs.Prelude.{Contains, option_map, slice_get, unwrap_or, IfSome}
use Rattle.std.specs.List.{enumerate_from, AllByRecursion}
use Rattle.std.proofs.lemmas.Option.{slice_get-map}
use Rattle.vkg_lists.proofs.Numbered.{numbered_get, numbered_member}
use Rattle.vkg_lists.proofs.Positions.{get_below}
use Rattle.vkg_terms.specs.NQuads.{Quad}
use Rattle.vkg_schema.specs.declared.table.Table.{Table}
use Rattle.vkg_schema.specs.declared.table.Reference.{Reference}
use Rattle.vkg_schema.specs.Rows.{Row, Database, rows_of}
use Rattle.vkg_schema.specs.Meets.{IsWellFormed, IsTable, IsReference, RefersTo, Comparable}
use Rattle.vkg_maps.specs.declared.mapping.TriplesMap.{TriplesMap}
use Rattle.vkg_maps.specs.QuadRules.{map_rules, quad_rules, parent_of}
use Rattle.vkg_lists.specs.Sets.{HasSameMembers}
use Rattle.vkg_lists.proofs.Distinct.{Contains-distinct, Contains-from_distinct}
use Rattle.vkg_maps.specs.Dataset.{quads, quads_of_rule, quad_eq, dataset}
use Rattle.vkg_maps.proofs.Quads.{quads_apart}
use Rattle.vkg_direct.specs.DirectGraph.{row_graph, direct_graph}
use Rattle.vkg_direct.specs.DirectMapping.{direct_map, direct, maps_of}
use Rattle.vkg_lists.proofs.Members.{each_from_recursion, Contains-from_flat_map, Contains-flat_map, Contains-from_map, Contains-map}
use Rattle.vkg_direct.proofs.Tables.{Makes, from_mapping, into_mapping}

-- the map of a table stands at the table's place
pub parent_at : (base : List ℕ) (ts : List Table) (m : TriplesMap) (j : ℕ) (t : Table) → slice_get ts j ≡ Some t → parent_of (maps_of base ts) m j ≡ direct_map base (j, t)
parent_at base ts m j t e =
    let z : 0 + j ≡ j = omega arith in
    ap (λ o. unwrap_or o m) (slice_get-map (direct_map base) (enumerate_from 0 ts) j ∙ ap (option_map (direct_map base)) (numbered_get 0 ts j t e)) ∙ ap (λ k. direct_map base (k, t)) z

module _ (base : List ℕ) (tables : List Table) (db : Database) where
  -- each table's term maps make their terms, of each row
  abbrev pub AllMade : Type 0
  AllMade = (kt : ℕ × Table) → Contains (enumerate_from 0 tables) kt → (row : Row) → Contains (rows_of db kt.0) row → Makes base tables (maps_of base tables) db kt.0 kt.1 row

  refers : IsWellFormed tables → (kt : ℕ × Table) → Contains (enumerate_from 0 tables) kt → (r : Reference) → Contains kt.1.references r → (r.pairs ≢ []) × ((parent_of (maps_of base tables) (direct_map base kt) r.table).table ≡ r.table)
  refers w kt is r r_is =
      let t = each_from_recursion (IsTable tables) tables w kt.1 (numbered_member 0 tables kt is) in
      let f = each_from_recursion (IsReference tables kt.1) kt.1.references t.references r r_is in
      let target = get_below tables r.table f.inside in
      let P : Option Table → Type 0 = λ o. IfSome o (λ t. RefersTo r t × AllByRecursion (Comparable kt.1 t) r.pairs) in
      let known = subst P target.1 f.target in
      (known.0.some, ap (λ m. m.table) (parent_at base tables (direct_map base kt) r.table target.0 target.1))

  pub same_quads : IsWellFormed tables → AllMade → HasSameMembers (dataset (direct tables base) db) (direct_graph tables base db)
  same_quads w made = record {
    onto = λ q h. forth q (Contains-from_distinct quad_eq (quads (direct tables base) db) q h);
    back = λ q h. Contains-distinct quads_apart (quads (direct tables base) db) q (back q h);
  }
    where
      forth : (q : Quad) → Contains (quads (direct tables base) db) q → Contains (direct_graph tables base db) q
      forth q h =
          let a = Contains-from_flat_map (quads_of_rule base db) (quad_rules (direct tables base)) q h in
          let b = Contains-from_flat_map (map_rules (maps_of base tables)) (maps_of base tables) a.0 a.1 in
          let c = Contains-from_map (direct_map base) (enumerate_from 0 tables) b.0 b.1 in
          let rule_is : Contains (map_rules (maps_of base tables) (direct_map base c.0)) a.0 = subst (λ m. Contains (map_rules (maps_of base tables) m) a.0) (sym c.2) b.2 in
          Contains-flat_map (λ t. flat_map (row_graph base tables db t.1) (rows_of db t.0)) (enumerate_from 0 tables) c.0 q c.1
          (from_mapping base tables (maps_of base tables) db c.0.0 c.0.1 (made c.0 c.1) (refers w c.0 c.1) q
          (Contains-flat_map (quads_of_rule base db) (map_rules (maps_of base tables) (direct_map base c.0)) a.0 q rule_is a.2))

      back : (q : Quad) → Contains (direct_graph tables base db) q → Contains (quads (direct tables base) db) q
      back q h =
          let a = Contains-from_flat_map (λ t. flat_map (row_graph base tables db t.1) (rows_of db t.0)) (enumerate_from 0 tables) q h in
          let b = Contains-from_flat_map (quads_of_rule base db) (map_rules (maps_of base tables) (direct_map base a.0)) q (into_mapping base tables (maps_of base tables) db a.0.0 a.0.1 (made a.0 a.1) (refers w a.0 a.1) q a.2) in
          Contains-flat_map (quads_of_rule base db) (quad_rules (direct tables base)) b.0 q
          (Contains-flat_map (map_rules (maps_of base tables)) (maps_of base tables) (direct_map base a.0) b.0 (Contains-map (direct_map base) (enumerate_from 0 tables) a.0 a.1) b.1) b.2
