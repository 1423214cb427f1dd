-- Worked rows: a table twice by a key with NULL in it, and employees joined with their departments.
use Rattle.std.proofs.Common.{◌≡◌, Bool, true, false, [], ◌∷◌, Some, refl}
use Rattle.vkg_cells.specs.declared.cell.Cell.TheVariants as cell
use Rattle.vkg_cells.specs.declared.cell.SqlType.{SqlType}
use Rattle.vkg_cells.specs.declared.cell.SqlType.TheVariants as kind
use Rattle.vkg_schema.specs.declared.table.Column.{Column}
use Rattle.vkg_schema.specs.Rows.{Database}
use Rattle.vkg_expr.specs.Expr.{Col, And, IsNull, Not, Same, exprs}
use Rattle.vkg_plan.specs.Kinds.{Tables}
use Rattle.vkg_plan.specs.Plan.{Plan, Scan, Project, Join, plans}
use Rattle.vkg_plan.specs.Rows.{rows_of}
use Rattle.vkg_rules.specs.declared.rewrite.Fell.TheVariants as fell
use Rattle.vkg_key_joins.specs.ParentJoin.{parent_join}
use Rattle.vkg_key_joins.specs.SelfJoin.{self_join}

column : SqlType → Bool → Column
column k not_null = record { name = 97 ∷ []; kind = k; not_null = not_null }

-- ---- a table whose first column is UNIQUE and may be NULL

one_table : Tables
one_table = record {
  name = 117 ∷ [];
  columns = column kind.Int false ∷ column kind.Text false ∷ [];
  keys = record { columns = 0 ∷ []; primary = false } ∷ [];
  references = [];
} ∷ []

-- (1, x), (NULL, y), (NULL, y)
one_rows : Database
one_rows = ((cell.Int (49 ∷ []) ∷ cell.Text (120 ∷ []) ∷ []) ∷ (cell.Null ∷ cell.Text (121 ∷ []) ∷ []) ∷ (cell.Null ∷ cell.Text (121 ∷ []) ∷ []) ∷ []) ∷ []

twice : Plan
twice = Join (plans (Scan 0 ∷ Scan 0 ∷ [])) (Same (Col 0) (Col 2))

once : Plan
once = Project (Col 0 ∷ Col 1 ∷ Col 0 ∷ Col 1 ∷ []) (Join (plans (Scan 0 ∷ [])) (Same (Col 0) (Col 0)))

-- the second Scan goes, and the test of the key stays
twice-once : self_join one_table twice ≡ Some (once, fell.Weight)
unfolding column one_table twice once
twice-once = refl

-- one row, (1, x, 1, x)
twice-rows : rows_of one_table twice one_rows ≡ (cell.Int (49 ∷ []) ∷ cell.Text (120 ∷ []) ∷ cell.Int (49 ∷ []) ∷ cell.Text (120 ∷ []) ∷ []) ∷ []
unfolding column one_table one_rows twice
twice-rows = refl

once-rows : rows_of one_table once one_rows ≡ (cell.Int (49 ∷ []) ∷ cell.Text (120 ∷ []) ∷ cell.Int (49 ∷ []) ∷ cell.Text (120 ∷ []) ∷ []) ∷ []
unfolding column one_table one_rows once
once-rows = refl

-- ---- employees of three columns, the last of which refers to a department and may be NULL

two_tables : Tables
two_tables =
    record {
      name = 101 ∷ [];
      columns = column kind.Int true ∷ column kind.Text false ∷ column kind.Int false ∷ [];
      keys = record { columns = 0 ∷ []; primary = true } ∷ [];
      references = record { table = 1; pairs = (2, 0) ∷ [] } ∷ [];
    }
    ∷ record { name = 100 ∷ []; columns = column kind.Int true ∷ []; keys = record { columns = 0 ∷ []; primary = true } ∷ []; references = [] }
    ∷ []

-- (7, a, 1), (8, a, NULL), (9, a, 1), and the department 1
employed : Database
employed =
    ((cell.Int (55 ∷ []) ∷ cell.Text (97 ∷ []) ∷ cell.Int (49 ∷ []) ∷ []) ∷ (cell.Int (56 ∷ []) ∷ cell.Text (97 ∷ []) ∷ cell.Null ∷ []) ∷ (cell.Int (57 ∷ []) ∷ cell.Text (97 ∷ []) ∷ cell.Int (49 ∷ []) ∷ []) ∷ [])
    ∷ ((cell.Int (49 ∷ []) ∷ []) ∷ [])
    ∷ []

with_department : Plan
with_department = Project (Col 0 ∷ []) (Join (plans (Scan 0 ∷ Scan 1 ∷ [])) (Same (Col 2) (Col 3)))

alone : Plan
alone = Project (Col 0 ∷ []) (Join (plans (Scan 0 ∷ [])) (And (exprs (Same (Col 2) (Col 2) ∷ Not (IsNull (Col 2)) ∷ []))))

-- the department goes, and its column is named in the employee
department-gone : parent_join two_tables with_department ≡ Some (alone, fell.Weight)
unfolding column two_tables with_department alone
department-gone = refl

-- 7 and 9
with_department-rows : rows_of two_tables with_department employed ≡ (cell.Int (55 ∷ []) ∷ []) ∷ (cell.Int (57 ∷ []) ∷ []) ∷ []
unfolding column two_tables employed with_department
with_department-rows = refl

alone-rows : rows_of two_tables alone employed ≡ (cell.Int (55 ∷ []) ∷ []) ∷ (cell.Int (57 ∷ []) ∷ []) ∷ []
unfolding column two_tables employed alone
alone-rows = refl
