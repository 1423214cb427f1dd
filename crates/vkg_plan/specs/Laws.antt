-- What holds of the rows of all plans.
use Rattle.std.specs.Prelude.{◌≡◌, ℕ, List, Some}
use Rattle.std.specs.List.{AllByRecursion}
use Rattle.vkg_schema.specs.Kinds.{table_kinds}
use Rattle.vkg_schema.specs.Rows.{Database, Row, rows_of as table_rows}
use Rattle.vkg_expr.specs.Laws.{HasKinds}
use Rattle.vkg_plan.specs.Kinds.{Kinds, Tables}
use Rattle.vkg_plan.specs.Plan.{Plan}
use Rattle.vkg_plan.specs.Rows.{rows_of}

abbrev pub HaveKinds : Kinds → List Row → Type 0
HaveKinds ks rows = AllByRecursion (HasKinds ks) rows

-- the rows of each table have the kinds of its columns
abbrev pub TablesFit : Tables → Database → Type 0
TablesFit schema db = (table : ℕ) (ks : Kinds) → table_kinds schema table ≡ Some ks → HaveKinds ks (table_rows db table)

-- over each database whose tables fit, the rows of the plan have the kinds
abbrev pub HasRowsOf : Tables → Plan → Kinds → Type 0
HasRowsOf schema p ks = (db : Database) → TablesFit schema db → HaveKinds ks (rows_of schema p db)
