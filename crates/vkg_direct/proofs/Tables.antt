-- The quads of one table by the direct mapping are its row graphs.
use Rattle.std.proofs.Common.{◌≡◌, refl, ℕ, ◌≢◌, List, [], ◌∷◌, sym, ap, ◌∙◌, subst, inl, inr, map, filter, flat_map, Some, None, Ok}
use Rattle.std.specs.Prelude.{Contains, filter_map, option_map, slice_get, unwrap_or}
use Rattle.std.specs.List.{enumerate_from}
use Rattle.std.proofs.lemmas.List.Elements.{Contains-append_left, Contains-append_right, Contains-append_cases}
use Rattle.std.proofs.lemmas.Option.{same_Some}
use Rattle.vkg_terms.specs.declared.term.Term.TheVariants.{Iri, Lit}
use Rattle.vkg_terms.specs.Vocabulary.{rdf_type}
use Rattle.vkg_terms.specs.NQuads.{Quad}
use Rattle.vkg_cells.specs.Form.{lexical_form, natural}
use Rattle.vkg_schema.specs.declared.table.Table.{Table}
use Rattle.vkg_schema.specs.declared.table.Column.{Column}
use Rattle.vkg_schema.specs.declared.table.Reference.{Reference}
use Rattle.vkg_schema.specs.Rows.{Row, Database, rows_of, cell_at, agree}
use Rattle.vkg_maps.specs.declared.mapping.TriplesMap.{TriplesMap}
use Rattle.vkg_maps.specs.declared.mapping.PredicateObjectMap.{PredicateObjectMap}
use Rattle.vkg_maps.specs.declared.mapping.ObjectMap.TheVariants as object
use Rattle.vkg_maps.specs.declared.term_map.TermMap.TheVariants as from
use Rattle.vkg_maps.specs.declared.term_map.TermType.TheVariants as sort
use Rattle.vkg_maps.specs.declared.quad_rule.QuadRule.{QuadRule}
use Rattle.vkg_maps.specs.Terms.{term_of, term_if_any}
use Rattle.vkg_maps.specs.QuadRules.{class_map, parent_of, object_rule, predicate_object_rules, map_rules}
use Rattle.vkg_maps.specs.Dataset.{quad_from, quad_of, quads_of_rule}
use Rattle.vkg_direct.specs.DirectGraph.{table_iri, column_iri, reference_iri, row_node, triple, literal_triple, reference_triples, row_graph}
use Rattle.vkg_direct.specs.DirectMapping.{column_property, reference_property, direct_map}
use Rattle.vkg_lists.proofs.Members.{Contains-here, Contains-there, Contains-cons_cases, Contains-from_flat_map, Contains-flat_map, Contains-from_map, Contains-map, Contains-filter_map, Contains-only, Contains-from_filter_map, Contains-from_filter}

-- each term map of the table makes what the direct graph has, of this row
pub record Makes (base : List ℕ) (tables : List Table) (maps : List TriplesMap) (db : Database) (k : ℕ) (table : Table) (row : Row) : Type 0 where
  pub node : term_of base (direct_map base (k, table)).subject row ≡ Ok (Some (row_node base table row))
  pub literals : (c : ℕ × Column) → Contains (enumerate_from 0 table.columns) c → term_of base (from.Column c.0 (sort.Literal (natural c.1.kind))) row ≡ Ok (option_map (λ form. Lit form (natural c.1.kind)) (lexical_form (cell_at row c.0)))
  pub parents : (r : Reference) → Contains table.references r → (other : Row) → Contains (rows_of db r.table) other →
      term_of base (parent_of maps (direct_map base (k, table)) r.table).subject other ≡ Ok (Some (row_node base (unwrap_or (slice_get tables r.table) table) other))

-- the rule of a property with one object
module _ (base : List ℕ) (tables : List Table) (maps : List TriplesMap) (db : Database) (k : ℕ) (table : Table) where
  abbrev m : TriplesMap
  m = direct_map base (k, table)

  abbrev class_rule : QuadRule
  class_rule = record { table = k; join = None; subject = m.subject; predicate = from.Constant (Iri rdf_type); object = from.Constant (Iri (table_iri base table)); graph = None }

  abbrev column_rule : (ℕ × Column) → QuadRule
  column_rule c = record { table = k; join = None; subject = m.subject; predicate = from.Constant (Iri (column_iri base table c.1)); object = from.Column c.0 (sort.Literal (natural c.1.kind)); graph = None }

  abbrev reference_rule : Reference → QuadRule
  reference_rule r = object_rule maps m (from.Constant (Iri (reference_iri base table r))) (object.Parent r.table r.pairs) None

  -- the class triple of a row
  class_quad : (row : Row) → Makes base tables maps db k table row → quad_of base class_rule row row ≡ Some (triple (row_node base table row) rdf_type (Iri (table_iri base table)))
  class_quad row h = λ i. quad_from (term_if_any (h.node i)) (Some (Iri rdf_type)) (Some (Iri (table_iri base table))) (Some None)

  -- the literal triple of a column
  column_quad : (row : Row) → Makes base tables maps db k table row → (c : ℕ × Column) → Contains (enumerate_from 0 table.columns) c → quad_of base (column_rule c) row row ≡ literal_triple base table row c
  column_quad row h c is =
      (λ i. quad_from (term_if_any (h.node i)) (Some (Iri (column_iri base table c.1))) (term_if_any (h.literals c is i)) (Some None))
      ∙ elim (lexical_form (cell_at row c.0)) as (λ o. quad_from (Some (row_node base table row)) (Some (Iri (column_iri base table c.1))) (option_map (λ form. Lit form (natural c.1.kind)) o) (Some None)
      ≡ option_map (λ form. triple (row_node base table row) (column_iri base table c.1) (Lit form (natural c.1.kind))) o) [ None ↦ refl | Some form ↦ refl ]

  abbrev target_of : Reference → Table
  target_of r = unwrap_or (slice_get tables r.table) table

  -- the reference triple to a row
  reference_quad : (row : Row) → Makes base tables maps db k table row → (r : Reference) → Contains table.references r → (other : Row) → Contains (rows_of db r.table) other
      → quad_of base (reference_rule r) row other ≡ Some (triple (row_node base table row) (reference_iri base table r) (row_node base (target_of r) other))
  reference_quad row h r is other there_is =
      elim r.pairs as (λ ps. quad_of base (object_rule maps m (from.Constant (Iri (reference_iri base table r))) (object.Parent r.table ps) None) row other
      ≡ Some (triple (row_node base table row) (reference_iri base table r) (row_node base (target_of r) other))) [ [] ↦ made | p ∷ ps ↦ made ]
    where
      made : quad_from (term_if_any (term_of base m.subject row)) (Some (Iri (reference_iri base table r))) (term_if_any (term_of base (parent_of maps m r.table).subject other)) (Some None)
          ≡ Some (triple (row_node base table row) (reference_iri base table r) (row_node base (target_of r) other))
      made = λ i. quad_from (term_if_any (h.node i)) (Some (Iri (reference_iri base table r))) (term_if_any (h.parents r is other there_is i)) (Some None)

  -- a reference has pairs, and its parent map is of its table
  abbrev Refers : Reference → Type 0
  Refers r = (r.pairs ≢ []) × ((parent_of maps m r.table).table ≡ r.table)

  reference_rows : (r : Reference) → Refers r → quads_of_rule base db (reference_rule r)
      ≡ flat_map (λ row. filter_map (quad_of base (reference_rule r) row) (filter (agree r.pairs row) (rows_of db r.table))) (rows_of db k)
  reference_rows r f =
      elim r.pairs as (λ ps. ps ≢ [] → quads_of_rule base db (object_rule maps m (from.Constant (Iri (reference_iri base table r))) (object.Parent r.table ps) None)
      ≡ flat_map (λ row. filter_map (quad_of base (object_rule maps m (from.Constant (Iri (reference_iri base table r))) (object.Parent r.table ps) None) row) (filter (agree ps row) (rows_of db r.table))) (rows_of db k)) [
        | [] ↦ λ n. absurd (n refl)
        | p ∷ ps ↦ λ n i. flat_map (λ row. filter_map (quad_of base (object_rule maps m (from.Constant (Iri (reference_iri base table r))) (object.Parent r.table (p ∷ ps)) None) row) (filter (agree (p ∷ ps) row) (rows_of db (f.1 i)))) (rows_of db k)
      ] f.0

  abbrev head : Row → Quad
  head row = triple (row_node base table row) rdf_type (Iri (table_iri base table))

  abbrev literals_of : Row → List Quad
  literals_of row = filter_map (literal_triple base table row) (enumerate_from 0 table.columns)

  abbrev references_of : Row → List Quad
  references_of row = flat_map (reference_triples base tables db table row) table.references

  in_head : (row : Row) (q : Quad) → head row ≡ q → Contains (row_graph base tables db table row) q
  in_head row q e = Contains-append_left (head row ∷ literals_of row) (references_of row) q (subst (Contains (head row ∷ literals_of row)) e (Contains-here (head row) (literals_of row)))

  in_literals : (row : Row) (q : Quad) → Contains (literals_of row) q → Contains (row_graph base tables db table row) q
  in_literals row q h = Contains-append_left (head row ∷ literals_of row) (references_of row) q (Contains-there (head row) (literals_of row) q h)

  in_references : (row : Row) (q : Quad) → Contains (references_of row) q → Contains (row_graph base tables db table row) q
  in_references row q h = Contains-append_right (head row ∷ literals_of row) (references_of row) q h

  abbrev graph : List Quad
  graph = flat_map (row_graph base tables db table) (rows_of db k)

  module _ (made : (row : Row) → Contains (rows_of db k) row → Makes base tables maps db k table row) (refers : (r : Reference) → Contains table.references r → Refers r) where
    class_in : (q : Quad) → Contains (quads_of_rule base db class_rule) q → Contains graph q
    class_in q h =
        let a = Contains-from_flat_map (λ row. filter_map (quad_of base class_rule row) (row ∷ [])) (rows_of db k) q h in
        let b = Contains-from_filter_map (quad_of base class_rule a.0) (a.0 ∷ []) q a.2 in
        let e : quad_of base class_rule a.0 a.0 ≡ Some q = ap (λ o. quad_of base class_rule a.0 o) (Contains-only a.0 b.0 b.1) ∙ b.2 in
        Contains-flat_map (row_graph base tables db table) (rows_of db k) a.0 q a.1
        (in_head a.0 q (same_Some (head a.0) q (sym (class_quad a.0 (made a.0 a.1)) ∙ e)))

    column_in : (c : ℕ × Column) → Contains (enumerate_from 0 table.columns) c → (q : Quad) → Contains (quads_of_rule base db (column_rule c)) q → Contains graph q
    column_in c is q h =
        let a = Contains-from_flat_map (λ row. filter_map (quad_of base (column_rule c) row) (row ∷ [])) (rows_of db k) q h in
        let b = Contains-from_filter_map (quad_of base (column_rule c) a.0) (a.0 ∷ []) q a.2 in
        let e : quad_of base (column_rule c) a.0 a.0 ≡ Some q = ap (λ o. quad_of base (column_rule c) a.0 o) (Contains-only a.0 b.0 b.1) ∙ b.2 in
        Contains-flat_map (row_graph base tables db table) (rows_of db k) a.0 q a.1
        (in_literals a.0 q (Contains-filter_map (literal_triple base table a.0) (enumerate_from 0 table.columns) c q is (sym (column_quad a.0 (made a.0 a.1) c is) ∙ e)))

    reference_in : (r : Reference) → Contains table.references r → (q : Quad) → Contains (quads_of_rule base db (reference_rule r)) q → Contains graph q
    reference_in r is q h =
        let a = Contains-from_flat_map (λ row. filter_map (quad_of base (reference_rule r) row) (filter (agree r.pairs row) (rows_of db r.table))) (rows_of db k) q (subst (λ qs. Contains qs q) (reference_rows r (refers r is)) h) in
        let b = Contains-from_filter_map (quad_of base (reference_rule r) a.0) (filter (agree r.pairs a.0) (rows_of db r.table)) q a.2 in
        let e = same_Some _ q (sym (reference_quad a.0 (made a.0 a.1) r is b.0 (Contains-from_filter _ _ b.0 b.1).0) ∙ b.2) in
        Contains-flat_map (row_graph base tables db table) (rows_of db k) a.0 q a.1
        (in_references a.0 q (Contains-flat_map (reference_triples base tables db table a.0) table.references r q is
        (subst (λ x. Contains (reference_triples base tables db table a.0 r) x) e
        (Contains-map (λ other. triple (row_node base table a.0) (reference_iri base table r) (row_node base (target_of r) other)) (filter (agree r.pairs a.0) (rows_of db r.table)) b.0 b.1))))

    rule_in : (rule : QuadRule) → Contains (map_rules maps m) rule → (q : Quad) → Contains (quads_of_rule base db rule) q → Contains graph q
    rule_in rule h q c = elim (Contains-append_cases (predicate_object_rules maps m (class_map m)) (flat_map (predicate_object_rules maps m) m.predicate_objects) rule h) [
      | inl d ↦ class_in q (subst (λ x. Contains (quads_of_rule base db x) q) (sym (Contains-only class_rule rule d)) c)
      | inr d ↦ by_property d
    ]
      where
        by_property : Contains (flat_map (predicate_object_rules maps m) m.predicate_objects) rule → Contains graph q
        by_property d =
            let a = Contains-from_flat_map (predicate_object_rules maps m) m.predicate_objects rule d in
            elim (Contains-append_cases (map (column_property base table) (enumerate_from 0 table.columns)) (map (reference_property base table) table.references) a.0 a.1) [
              | inl e ↦
                  let b = Contains-from_map (column_property base table) (enumerate_from 0 table.columns) a.0 e in
                  let is : Contains (predicate_object_rules maps m (column_property base table b.0)) rule = subst (λ po. Contains (predicate_object_rules maps m po) rule) (sym b.2) a.2 in
                  column_in b.0 b.1 q (subst (λ x. Contains (quads_of_rule base db x) q) (sym (Contains-only (column_rule b.0) rule is)) c)
              | inr e ↦
                  let b = Contains-from_map (reference_property base table) table.references a.0 e in
                  let is : Contains (predicate_object_rules maps m (reference_property base table b.0)) rule = subst (λ po. Contains (predicate_object_rules maps m po) rule) (sym b.2) a.2 in
                  reference_in b.0 b.1 q (subst (λ x. Contains (quads_of_rule base db x) q) (sym (Contains-only (reference_rule b.0) rule is)) c)
            ]

    -- each quad of the mapping is in the graph
    pub from_mapping : (q : Quad) → Contains (flat_map (quads_of_rule base db) (map_rules maps m)) q → Contains graph q
    from_mapping q h = let a = Contains-from_flat_map (quads_of_rule base db) (map_rules maps m) q h in rule_in a.0 a.1 q a.2

    into_class : (row : Row) → Contains (rows_of db k) row → (q : Quad) → head row ≡ q → Contains (quads_of_rule base db class_rule) q
    into_class row is q e = Contains-flat_map (λ row. filter_map (quad_of base class_rule row) (row ∷ [])) (rows_of db k) row q is
        (Contains-filter_map (quad_of base class_rule row) (row ∷ []) row q (Contains-here row []) (class_quad row (made row is) ∙ ap Some e))

    into_column : (row : Row) → Contains (rows_of db k) row → (c : ℕ × Column) → Contains (enumerate_from 0 table.columns) c → (q : Quad) → literal_triple base table row c ≡ Some q → Contains (quads_of_rule base db (column_rule c)) q
    into_column row is c c_is q e = Contains-flat_map (λ row. filter_map (quad_of base (column_rule c) row) (row ∷ [])) (rows_of db k) row q is
        (Contains-filter_map (quad_of base (column_rule c) row) (row ∷ []) row q (Contains-here row []) (column_quad row (made row is) c c_is ∙ e))

    into_reference : (row : Row) → Contains (rows_of db k) row → (r : Reference) → Contains table.references r → (q : Quad) → Contains (reference_triples base tables db table row r) q → Contains (quads_of_rule base db (reference_rule r)) q
    into_reference row is r r_is q h =
        let b = Contains-from_map (λ other. triple (row_node base table row) (reference_iri base table r) (row_node base (target_of r) other)) (filter (agree r.pairs row) (rows_of db r.table)) q h in
        subst (λ qs. Contains qs q) (sym (reference_rows r (refers r r_is)))
        (Contains-flat_map (λ row. filter_map (quad_of base (reference_rule r) row) (filter (agree r.pairs row) (rows_of db r.table))) (rows_of db k) row q is
        (Contains-filter_map (quad_of base (reference_rule r) row) (filter (agree r.pairs row) (rows_of db r.table)) b.0 q b.1
        (reference_quad row (made row is) r r_is b.0 (Contains-from_filter (agree r.pairs row) (rows_of db r.table) b.0 b.1).0 ∙ ap Some b.2)))

    -- the rules by their places in the map
    by_class : (q : Quad) → Contains (quads_of_rule base db class_rule) q → Contains (flat_map (quads_of_rule base db) (map_rules maps m)) q
    by_class q h = Contains-flat_map (quads_of_rule base db) (map_rules maps m) class_rule q
        (Contains-append_left (predicate_object_rules maps m (class_map m)) (flat_map (predicate_object_rules maps m) m.predicate_objects) class_rule (Contains-here class_rule [])) h

    by_po : (po : PredicateObjectMap) → Contains m.predicate_objects po → (rule : QuadRule) → Contains (predicate_object_rules maps m po) rule → (q : Quad) → Contains (quads_of_rule base db rule) q → Contains (flat_map (quads_of_rule base db) (map_rules maps m)) q
    by_po po is rule r_is q h = Contains-flat_map (quads_of_rule base db) (map_rules maps m) rule q
        (Contains-append_right (predicate_object_rules maps m (class_map m)) (flat_map (predicate_object_rules maps m) m.predicate_objects) rule (Contains-flat_map (predicate_object_rules maps m) m.predicate_objects po rule is r_is)) h

    abbrev column_pos : List PredicateObjectMap
    column_pos = map (column_property base table) (enumerate_from 0 table.columns)

    abbrev reference_pos : List PredicateObjectMap
    reference_pos = map (reference_property base table) table.references

    into_row : (row : Row) → Contains (rows_of db k) row → (q : Quad) → Contains (row_graph base tables db table row) q → Contains (flat_map (quads_of_rule base db) (map_rules maps m)) q
    into_row row is q h = elim (Contains-append_cases (head row ∷ literals_of row) (references_of row) q h) [
      | inl c ↦ elim (Contains-cons_cases (head row) (literals_of row) q c) [
        | inl e ↦ by_class q (into_class row is q e)
        | inr d ↦
            let b = Contains-from_filter_map (literal_triple base table row) (enumerate_from 0 table.columns) q d in
            by_po (column_property base table b.0) (Contains-append_left column_pos reference_pos (column_property base table b.0) (Contains-map (column_property base table) (enumerate_from 0 table.columns) b.0 b.1))
            (column_rule b.0) (Contains-here (column_rule b.0) []) q (into_column row is b.0 b.1 q b.2)
      ]
      | inr c ↦
          let b = Contains-from_flat_map (reference_triples base tables db table row) table.references q c in
          by_po (reference_property base table b.0) (Contains-append_right column_pos reference_pos (reference_property base table b.0) (Contains-map (reference_property base table) table.references b.0 b.1))
          (reference_rule b.0) (Contains-here (reference_rule b.0) []) q (into_reference row is b.0 b.1 q b.2)
    ]

    -- each quad of the graph is one of the mapping
    pub into_mapping : (q : Quad) → Contains graph q → Contains (flat_map (quads_of_rule base db) (map_rules maps m)) q
    into_mapping q h = let a = Contains-from_flat_map (row_graph base tables db table) (rows_of db k) q h in into_row a.0 a.1 q a.2
