-- The quads of a rule over rows are those of the quad rule, where its term maps make no data error.
use Rattle.std.proofs.Common.{◌≡◌, ◌∙◌, ℕ, ◌<◌, Bool, List, [], ◌++◌, map, length, refl, sym, ap, subst, append-nil}
use Rattle.std.specs.Prelude.{Option, Some, None, IfSome, option_map, filter, filter_map, Contains}
use Rattle.std.specs.Option.{option_to_list}
use Rattle.std.specs.List.{list_all, cons_option, AllByRecursion}
use Rattle.vkg_lists.specs.Lists.{AllBelow}
use Rattle.vkg_lists.proofs.Each.{recursion_weaken}
use Rattle.vkg_lists.proofs.Members.{Contains-from_filter, flat_map_agree_on, filter_map_agree_on}
use Rattle.vkg_lists.proofs.Walks.{cons_option_is, filter_map_is_flat_map, filter-flat_map, filter-map, filter_map-map, filter_map-flat_map}
use Rattle.vkg_terms.specs.NQuads.{Quad}
use Rattle.vkg_cells.specs.declared.cell.SqlType.{SqlType}
use Rattle.vkg_schema.specs.Rows.{Database, Row, rows_of as table_rows, agree}
use Rattle.vkg_maps.specs.declared.quad_rule.Join.{Join}
use Rattle.vkg_maps.specs.declared.quad_rule.QuadRule.{QuadRule}
use Rattle.vkg_maps.specs.declared.term_map.TermMap.{TermMap}
use Rattle.vkg_maps.specs.Dataset.{graph_name, quad_from, quad_of, quads_of_rule, target}
use Rattle.vkg_maps.specs.Terms.{term_of as term_made, term_if_any}
use Rattle.vkg_expr.specs.Value.{term_of, holds}
use Rattle.vkg_expr.specs.TermExprs.{moved_term}
use Rattle.vkg_plan.specs.Kinds.{Tables}
use Rattle.vkg_row_rules.specs.RowDataset.{conditions, graph_at, quads_of, term_at}
use Rattle.vkg_row_rules.specs.RowRules.{object_term, row_rule}
use Rattle.vkg_row_rules.specs.RowTerms.{row_term}
use Rattle.vkg_maps.specs.Within.{IsCondition, IsOver, term_columns, kinds_at}
use Rattle.vkg_row_rules.proofs.PairedRows.{conditions_hold, term_before, term_behind}
use Rattle.vkg_row_rules.proofs.RowTermValues.{IsMade, row_term_value}
use Rattle.vkg_row_rules.proofs.SoundRules.{OfRule}

-- ---- what is known of a rule over a database

module _ (base : List ℕ) (schema : Tables) (db : Database) where
  -- the term map's columns are there, and it makes no data error
  pub record IsFine (table : ℕ) (t : TermMap) : Type 0 where
    pub over : IsOver (kinds_at schema table) t
    pub made : (row : Row) → Contains (table_rows db table) row → IsMade (term_made base t row)

  pub record IsSound (rule : QuadRule) : Type 0 where
    pub width : (row : Row) → Contains (table_rows db rule.table) row → length (kinds_at schema rule.table) ≡ length row
    pub terms : OfRule IsFine schema rule

-- ---- the terms of the child, in a row with another behind it

module _ (base : List ℕ) (ks : List SqlType) (r s : Row) (width : length ks ≡ length r) where
  pub before : (t : TermMap) → IsOver ks t → IsMade (term_made base t r) → term_at (row_term base ks t) (r ++ s) ≡ term_if_any (term_made base t r)
  before t h m =
      let e = term_before r s base t (subst (λ n. AllBelow n (term_columns t)) width h.columns) in
      row_term_value base ks t (r ++ s) (subst IsMade (sym e) m) ∙ ap term_if_any e

  pub behind : (ls : List SqlType) (t : TermMap) → IsMade (term_made base t s) → term_at (moved_term (length ks) (row_term base ls t)) (r ++ s) ≡ term_if_any (term_made base t s)
  behind ls t m = ap term_of (term_behind r s (length ks) width (row_term base ls t)) ∙ row_term_value base ls t s m

-- ---- the term of the graph, if there is one

module _ (base : List ℕ) (ks : List SqlType) where
  -- what it is on a row is what it is on the child's
  abbrev pub GraphIs : Option TermMap → Row → Row → Type 0
  GraphIs o row child = IfSome o (λ g. term_at (row_term base ks g) row ≡ term_if_any (term_made base g child))

  graph_same : (g : Option TermMap) (row child : Row) → GraphIs g row child → graph_at (option_map (row_term base ks) g) row ≡ target base g child
  graph_same None row child h = refl
  graph_same (Some g) row child h = ap (option_map graph_name) h

module _ (base : List ℕ) (schema : Tables) (db : Database) (table : ℕ) where
  pub graph_of : (g : Option TermMap) (row : Row) → Contains (table_rows db table) row → IfSome g (IsFine base schema db table) → GraphIs base (kinds_at schema table) g row row
  graph_of None row c h = tt
  graph_of (Some g) row c h = row_term_value base (kinds_at schema table) g row (h.made row c)

  pub graph_before : (r s : Row) → length (kinds_at schema table) ≡ length r → (g : Option TermMap) → Contains (table_rows db table) r → IfSome g (IsFine base schema db table) → GraphIs base (kinds_at schema table) g (r ++ s) r
  graph_before r s width None c h = tt
  graph_before r s width (Some g) c h = before base (kinds_at schema table) r s width g h.over (h.made r c)

module _ (base : List ℕ) (schema : Tables) (db : Database) (table : ℕ) (subject predicate object : TermMap) (graph : Option TermMap) where
  abbrev pub rule : Option Join → QuadRule
  rule join = record { table = table; join = join; subject = subject; predicate = predicate; object = object; graph = graph }

  abbrev ks : List SqlType
  ks = kinds_at schema table

  abbrev rows : List Row
  rows = table_rows db table

  -- the quad of a row
  abbrev quad : Option Join → Row → Option Quad
  quad join row =
      quad_from (term_at (row_term base ks subject) row) (term_at (row_term base ks predicate) row) (term_at (object_term base schema ks join object) row)
      (graph_at (option_map (row_term base ks) graph) row)

  -- of the rows of one table
  alone : IsSound base schema db (rule None) → quads_of schema db (row_rule base schema (rule None)) ≡ quads_of_rule base db (rule None)
  alone h = filter_map_is_flat_map (quad None) rows ∙ flat_map_agree_on (λ row. option_to_list (quad None row)) (λ row. cons_option (quad_of base (rule None) row row) []) rows each
    where
      each : (row : Row) → Contains rows row → option_to_list (quad None row) ≡ cons_option (quad_of base (rule None) row row) []
      each row c =
          sym (cons_option_is (quad None row) [] ∙ append-nil (option_to_list (quad None row)))
          ∙ (λ i. cons_option (quad_from
          (row_term_value base ks subject row (h.terms.subject.made row c) i)
          (row_term_value base ks predicate row (h.terms.predicate.made row c) i)
          (row_term_value base ks object row (h.terms.object.made row c) i)
          (graph_same base ks graph row row (graph_of base schema db table graph row c h.terms.graph) i)) [])

  -- of the pairs of rows that agree
  module _ (join : Join) (h : IsSound base schema db (rule (Some join))) where
    abbrev others : List Row
    others = table_rows db join.table

    abbrev agrees : Row → Bool
    agrees row = list_all (λ c. holds c row) (conditions schema table join)

    with_row : (r : Row) → Contains rows r → filter_map (quad (Some join)) (filter agrees (map (λ s. r ++ s) others)) ≡ filter_map (quad_of base (rule (Some join)) r) (filter (agree join.conditions r) others)
    with_row r c =
        ap (filter_map (quad (Some join))) (filter-map agrees (λ s. r ++ s) others)
        ∙ filter_map-map (quad (Some join)) (λ s. r ++ s) (filter (λ s. agrees (r ++ s)) others)
        ∙ ap (filter_map (λ s. quad (Some join) (r ++ s))) (λ i. filter (λ s. agreed s i) others)
        ∙ filter_map_agree_on (λ s. quad (Some join) (r ++ s)) (quad_of base (rule (Some join)) r) (filter (agree join.conditions r) others) each
      where
        children : AllByRecursion (λ (c : ℕ × ℕ). c.0 < length ks) join.conditions
        children = recursion_weaken (IsCondition ks (kinds_at schema join.table)) (λ (c : ℕ × ℕ). c.0 < length ks) join.conditions (λ c k. k.of_child) h.terms.joined.1

        width : length ks ≡ length r
        width = h.width r c

        agreed : (s : Row) → agrees (r ++ s) ≡ agree join.conditions r s
        agreed s = conditions_hold r s (length ks) width join.conditions (subst (λ n. AllByRecursion (λ (c : ℕ × ℕ). c.0 < n) join.conditions) width children)

        each : (s : Row) → Contains (filter (agree join.conditions r) others) s → quad (Some join) (r ++ s) ≡ quad_of base (rule (Some join)) r s
        each s d =
            let of_parent = (Contains-from_filter (agree join.conditions r) others s d).0 in
            λ i. quad_from
            (before base ks r s width subject h.terms.subject.over (h.terms.subject.made r c) i)
            (before base ks r s width predicate h.terms.predicate.over (h.terms.predicate.made r c) i)
            (behind base ks r s width (kinds_at schema join.table) object (h.terms.object.made s of_parent) i)
            (graph_same base ks graph (r ++ s) r (graph_before base schema db table r s width graph c h.terms.graph) i)

    paired : quads_of schema db (row_rule base schema (rule (Some join))) ≡ quads_of_rule base db (rule (Some join))
    paired =
        ap (filter_map (quad (Some join))) (filter-flat_map agrees (λ r. map (λ s. r ++ s) others) rows)
        ∙ filter_map-flat_map (quad (Some join)) (λ r. filter agrees (map (λ s. r ++ s) others)) rows
        ∙ flat_map_agree_on (λ r. filter_map (quad (Some join)) (filter agrees (map (λ s. r ++ s) others)))
        (λ r. filter_map (quad_of base (rule (Some join)) r) (filter (agree join.conditions r) others)) rows with_row

  quads_same : (join : Option Join) → IsSound base schema db (rule join) → quads_of schema db (row_rule base schema (rule join)) ≡ quads_of_rule base db (rule join)
  quads_same None h = alone h
  quads_same (Some join) h = paired join h

pub rule_quads : (base : List ℕ) (schema : Tables) (db : Database) (rule : QuadRule) → IsSound base schema db rule → quads_of schema db (row_rule base schema rule) ≡ quads_of_rule base db rule
rule_quads base schema db rule h = quads_same base schema db rule.table rule.subject rule.predicate rule.object rule.graph rule.join h
