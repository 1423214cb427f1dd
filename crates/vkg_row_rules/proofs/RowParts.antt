-- The rows of a rule over rows, and what its terms are there.
use Rattle.std.proofs.Common.{◌≡◌, ◌∙◌, ℕ, List, [], ◌++◌, map, sym, ap, subst, append-nil}
use Rattle.std.specs.Prelude.{Option, Some, None, Contains}
use Rattle.std.specs.List.{list_all}
use Rattle.vkg_lists.proofs.Members.{Contains-from_filter, Contains-from_flat_map, Contains-from_map}
use Rattle.vkg_schema.specs.Rows.{Database, Row, rows_of as table_rows}
use Rattle.vkg_maps.specs.declared.quad_rule.Join.{Join}
use Rattle.vkg_maps.specs.declared.quad_rule.QuadRule.{QuadRule}
use Rattle.vkg_maps.specs.declared.term_map.TermMap.{TermMap}
use Rattle.vkg_maps.specs.Terms.{term_of as term_made, term_if_any}
use Rattle.vkg_expr.specs.Value.{holds}
use Rattle.vkg_plan.specs.Kinds.{Tables}
use Rattle.vkg_plan.specs.Rows.{pairs}
use Rattle.vkg_row_rules.specs.RowDataset.{conditions, rule_rows, term_at}
use Rattle.vkg_row_rules.specs.RowRules.{object_term}
use Rattle.vkg_row_rules.specs.RowTerms.{row_term}
use Rattle.vkg_row_rules.proofs.RowTermValues.{row_term_value}
use Rattle.vkg_row_rules.proofs.RuleQuads.{GraphIs, IsSound, before, behind, graph_before, graph_of, rule}
use Rattle.vkg_row_rules.proofs.SoundRules.{object_table}
use Rattle.vkg_maps.specs.Within.{kinds_at}

module _ (base : List ℕ) (schema : Tables) (db : Database) where
  -- of which rows a row is made, and that the terms are theirs
  pub record HasParts (rule : QuadRule) (row : Row) : Type 0 where
    pub child : Row
    pub other : Row
    pub behind_child : Row
    pub of_child : Contains (table_rows db rule.table) child
    pub of_other : Contains (table_rows db (object_table rule.table rule.join)) other
    pub whole : row ≡ child ++ behind_child
    pub subject : term_at (row_term base (kinds_at schema rule.table) rule.subject) row ≡ term_if_any (term_made base rule.subject child)
    pub predicate : term_at (row_term base (kinds_at schema rule.table) rule.predicate) row ≡ term_if_any (term_made base rule.predicate child)
    pub object : term_at (object_term base schema (kinds_at schema rule.table) rule.join rule.object) row ≡ term_if_any (term_made base rule.object other)
    pub graph : GraphIs base (kinds_at schema rule.table) rule.graph row child

  module _ (table : ℕ) (subject predicate object : TermMap) (graph : Option TermMap) where
    parts_of : (join : Option Join) → IsSound base schema db (rule base schema db table subject predicate object graph join) → (row : Row) → Contains (rule_rows schema db table join) row
        → HasParts (rule base schema db table subject predicate object graph join) row
    parts_of None h row c = record {
      child = row;
      other = row;
      behind_child = [];
      of_child = c;
      of_other = c;
      whole = sym (append-nil row);
      subject = row_term_value base (kinds_at schema table) subject row (h.terms.subject.made row c);
      predicate = row_term_value base (kinds_at schema table) predicate row (h.terms.predicate.made row c);
      object = row_term_value base (kinds_at schema table) object row (h.terms.object.made row c);
      graph = graph_of base schema db table graph row c h.terms.graph;
    }
    parts_of (Some join) h row c =
        let rows = table_rows db table in
        let others = table_rows db join.table in
        let p = Contains-from_filter (λ row. list_all (λ c. holds c row) (conditions schema table join)) (pairs rows others) row c in
        let r = Contains-from_flat_map (λ l. map (λ s. l ++ s) others) rows row p.0 in
        let s = Contains-from_map (λ s. r.0 ++ s) others row r.2 in
        let ks = kinds_at schema table in
        let width = h.width r.0 r.1 in
        record {
          child = r.0;
          other = s.0;
          behind_child = s.0;
          of_child = r.1;
          of_other = s.1;
          whole = sym s.2;
          subject = ap (term_at (row_term base ks subject)) (sym s.2) ∙ before base ks r.0 s.0 width subject h.terms.subject.over (h.terms.subject.made r.0 r.1);
          predicate = ap (term_at (row_term base ks predicate)) (sym s.2) ∙ before base ks r.0 s.0 width predicate h.terms.predicate.over (h.terms.predicate.made r.0 r.1);
          object = ap (term_at (object_term base schema ks (Some join) object)) (sym s.2) ∙ behind base ks r.0 s.0 width (kinds_at schema join.table) object (h.terms.object.made s.0 s.1);
          graph = subst (λ w. GraphIs base ks graph w r.0) s.2 (graph_before base schema db table r.0 s.0 width graph r.1 h.terms.graph);
        }

  pub row_parts : (rule : QuadRule) → IsSound base schema db rule → (row : Row) → Contains (rule_rows schema db rule.table rule.join) row → HasParts rule row
  row_parts rule h row c = parts_of rule.table rule.subject rule.predicate rule.object rule.graph rule.join h row c
