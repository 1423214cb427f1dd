-- The quads of rules over rows.
use Rattle.std.specs.Prelude.{ℕ, ◌+◌, List, map, filter, flat_map, filter_map, length, Option, Some, None, option_map}
use Rattle.std.specs.List.{list_all}
use Rattle.vkg_lists.specs.Sets.{distinct}
use Rattle.vkg_terms.specs.declared.term.Term.{Term}
use Rattle.vkg_terms.specs.NQuads.{Quad}
use Rattle.vkg_schema.specs.Rows.{Database, Row, rows_of as table_rows}
use Rattle.vkg_maps.specs.declared.quad_rule.Join.{Join}
use Rattle.vkg_maps.specs.Dataset.{graph_name, quad_from, quad_eq}
use Rattle.vkg_expr.specs.declared.term_expr.TermExpr.{TermExpr}
use Rattle.vkg_expr.specs.Expr.{Expr, Col, Same}
use Rattle.vkg_expr.specs.Value.{value_of, term_of, holds}
use Rattle.vkg_expr.specs.TermExprs.{term_expr}
use Rattle.vkg_plan.specs.Kinds.{Tables}
use Rattle.vkg_plan.specs.Rows.{pairs}
use Rattle.vkg_row_rules.specs.declared.row_rule.RowRule.{RowRule}
use Rattle.vkg_maps.specs.Within.{kinds_at}

-- R2RML, 8: the join conditions, the parent's columns behind the child's
abbrev pub conditions : Tables → ℕ → Join → List Expr
conditions schema child join = map (λ c. Same (Col c.0) (Col (c.1 + length (kinds_at schema child)))) join.conditions

-- the rows of a rule, or its pairs of rows that agree
abbrev pub rule_rows : Tables → Database → ℕ → Option Join → List Row
rule_rows schema db child None = table_rows db child
rule_rows schema db child (Some join) =
    filter (λ row. list_all (λ c. holds c row) (conditions schema child join)) (pairs (table_rows db child) (table_rows db join.table))

abbrev pub term_at : TermExpr → Row → Option Term
term_at e row = term_of (value_of (term_expr e) row)

-- R2RML, 9: the graph of a row's quad, if it has one
abbrev pub graph_at : Option TermExpr → Row → Option (Option Term)
graph_at None row = Some None
graph_at (Some e) row = option_map graph_name (term_at e row)

-- the quad of a row, if it has one
abbrev pub quad_at : RowRule → Row → Option Quad
quad_at rule row = quad_from (term_at rule.subject row) (term_at rule.predicate row) (term_at rule.object row) (graph_at rule.graph row)

abbrev pub quads_of : Tables → Database → RowRule → List Quad
quads_of schema db rule = filter_map (quad_at rule) (rule_rows schema db rule.table rule.join)

-- the quads of all rules, one after another
abbrev pub all_quads : Tables → List RowRule → Database → List Quad
all_quads schema rules db = flat_map (quads_of schema db) rules

-- the set of the quads of all rules
abbrev pub dataset_of : Tables → List RowRule → Database → List Quad
dataset_of schema rules db = distinct quad_eq (all_quads schema rules db)
