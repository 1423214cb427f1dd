-- When the rows of a plan are the answer to a query.
use Rattle.std.specs.Prelude.{◌≡◌, ℕ, List, map, length}
use Rattle.std.specs.List.Sorted.{IsPermutation}
use Rattle.vkg_schema.specs.Rows.{Database, Row}
use Rattle.vkg_sparql.specs.Query.{Query}
use Rattle.vkg_order.specs.Entries.{Entry}
use Rattle.vkg_algebra.specs.Answer.{answer, selected_variables, solution_entry, solutions_lines, solutions_of}
use Rattle.vkg_algebra.specs.Solutions.{Solution}
use Rattle.vkg_expr.specs.Value.{term_of}
use Rattle.vkg_plan.specs.Kinds.{Tables}
use Rattle.vkg_plan.specs.Plan.{Plan}
use Rattle.vkg_plan.specs.Rows.{rows_of}
use Rattle.vkg_row_rules.specs.declared.row_rule.RowRule.{RowRule}
use Rattle.vkg_row_rules.specs.RowDataset.{dataset_of}

-- the terms of a row as a solution; NULL is an unbound variable
abbrev pub row_solution : Row → Solution
row_solution row = map term_of row

-- a row of a query's plan: the line of the selected variables, and the values of the keys behind them
abbrev pub row_entry : Query → Row → Entry
row_entry query row = solution_entry (length (selected_variables query)) (row_solution row)

-- over every database that meets what is asked of it, the rows are the solutions of the query over the dataset of the rules
abbrev pub GivesSolutions : (Database → Type 0) → Tables → List RowRule → Plan → Query → Type 0
GivesSolutions Meets schema rules plan query =
    (db : Database) → Meets db → IsPermutation (map row_solution (rows_of schema plan db)) (solutions_of query (dataset_of schema rules db))

-- and what is written of these rows, in any order, is the query's answer
abbrev pub GivesAnswer : (Database → Type 0) → Tables → List RowRule → Plan → Query → Type 0
GivesAnswer Meets schema rules plan query =
    (db : Database) → Meets db → (rows : List Row) → IsPermutation rows (rows_of schema plan db) →
    solutions_lines query (map row_solution rows) ≡ answer query (dataset_of schema rules db)
