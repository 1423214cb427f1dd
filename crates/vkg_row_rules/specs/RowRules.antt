-- A quad rule as a rule over rows: the parent's columns stand behind the child's.
use Rattle.std.specs.Prelude.{ℕ, List, map, length, Option, Some, None, IfSome, option_map}
use Rattle.std.specs.List.{AllByRecursion}
use Rattle.vkg_cells.specs.declared.cell.SqlType.{SqlType}
use Rattle.vkg_maps.specs.declared.quad_rule.QuadRule.{QuadRule}
use Rattle.vkg_maps.specs.declared.quad_rule.Join.{Join}
use Rattle.vkg_maps.specs.declared.term_map.TermMap.{TermMap}
use Rattle.vkg_maps.specs.declared.mapping.Mapping.{Mapping}
use Rattle.vkg_maps.specs.QuadRules.{quad_rules}
use Rattle.vkg_expr.specs.declared.term_expr.TermExpr.{TermExpr}
use Rattle.vkg_expr.specs.TermExprs.{moved_term}
use Rattle.vkg_plan.specs.Kinds.{Tables}
use Rattle.vkg_row_rules.specs.declared.row_rule.RowRule.{RowRule}
use Rattle.vkg_row_rules.specs.RowTerms.{row_term}
use Rattle.vkg_maps.specs.Within.{IsOver, kinds_at}

-- the kinds of the columns from which a rule's object is made: those of the parent where there is a join
abbrev pub object_kinds : Tables → List SqlType → Option Join → List SqlType
object_kinds schema ks None = ks
object_kinds schema ks (Some join) = kinds_at schema join.table

-- R2RML, 7 and 8: the columns of a rule's term maps are there
pub record IsRuleOver (schema : Tables) (rule : QuadRule) : Type 0 where
  pub subject : IsOver (kinds_at schema rule.table) rule.subject
  pub predicate : IsOver (kinds_at schema rule.table) rule.predicate
  pub object : IsOver (object_kinds schema (kinds_at schema rule.table) rule.join) rule.object
  pub graph : IfSome rule.graph (IsOver (kinds_at schema rule.table))

abbrev pub AreOver : Tables → List QuadRule → Type 0
AreOver schema rules = AllByRecursion (IsRuleOver schema) rules

-- R2RML, 8: of the row itself, or of the parent's row behind it
abbrev pub object_term : List ℕ → Tables → List SqlType → Option Join → TermMap → TermExpr
object_term base schema ks None o = row_term base ks o
object_term base schema ks (Some join) o = moved_term (length ks) (row_term base (kinds_at schema join.table) o)

abbrev pub row_rule : List ℕ → Tables → QuadRule → RowRule
row_rule base schema rule = record {
  table = rule.table;
  join = rule.join;
  subject = row_term base (kinds_at schema rule.table) rule.subject;
  predicate = row_term base (kinds_at schema rule.table) rule.predicate;
  object = object_term base schema (kinds_at schema rule.table) rule.join rule.object;
  graph = option_map (row_term base (kinds_at schema rule.table)) rule.graph;
}

abbrev pub row_rules : Tables → Mapping → List RowRule
row_rules schema mapping = map (row_rule mapping.base schema) (quad_rules mapping)
