-- Worked rows: two left joins of a table with itself, one by a foreign key without NULL, the key of a table that is referred to, and a member that stands
-- on the left.
use Rattle.std.proofs.Common.{◌≡◌, Bool, true, false, [], ◌∷◌, Some, refl}
use Rattle.vkg_cells.specs.declared.cell.Cell.TheVariants as cell
use Rattle.vkg_cells.specs.declared.cell.SqlType.{SqlType}
use Rattle.vkg_cells.specs.declared.cell.SqlType.TheVariants as kind
use Rattle.vkg_schema.specs.declared.table.Column.{Column}
use Rattle.vkg_schema.specs.Rows.{Database}
use Rattle.vkg_expr.specs.Expr.{Col, And, IsNull, Not, Same, exprs}
use Rattle.vkg_expr.specs.Logic.{truth_const}
use Rattle.vkg_plan.specs.Kinds.{Tables}
use Rattle.vkg_plan.specs.Plan.{Plan, Scan, Project, Join, Left, plans}
use Rattle.vkg_plan.specs.Rows.{rows_of}
use Rattle.vkg_rules.specs.declared.rewrite.Fell.TheVariants as fell
use Rattle.vkg_key_lefts.specs.ParentLeft.{parent_left}
use Rattle.vkg_key_lefts.specs.ReferenceLeft.{reference_left}
use Rattle.vkg_key_lefts.specs.SelfLeft.{is_left, is_null_unless, self_left}
use Rattle.vkg_key_lefts.specs.SelfLeftMember.{self_left_member}

column : SqlType → Bool → Column
column k not_null = record { name = 97 ∷ []; kind = k; not_null = not_null }

-- employees of three columns, the second and the third of which may be NULL, and departments, which refer to their leaders
two_tables : Tables
two_tables =
    record {
      name = 101 ∷ [];
      columns = column kind.Int true ∷ column kind.Text false ∷ column kind.Int false ∷ [];
      keys = record { columns = 0 ∷ []; primary = true } ∷ [];
      references = [];
    }
    ∷ record {
      name = 100 ∷ [];
      columns = column kind.Int true ∷ column kind.Int true ∷ [];
      keys = record { columns = 0 ∷ []; primary = true } ∷ [];
      references = record { table = 0; pairs = (1, 0) ∷ [] } ∷ [];
    }
    ∷ []

-- (7, a, 1), (8, NULL, NULL), and the department 1 that 7 leads
employed : Database
employed =
    ((cell.Int (55 ∷ []) ∷ cell.Text (97 ∷ []) ∷ cell.Int (49 ∷ []) ∷ []) ∷ (cell.Int (56 ∷ []) ∷ cell.Null ∷ cell.Null ∷ []) ∷ [])
    ∷ ((cell.Int (49 ∷ []) ∷ cell.Int (55 ∷ []) ∷ []) ∷ [])
    ∷ []

-- ---- two properties of one row, each if it is there

with_name : Plan
with_name = Left (Scan 0) (Scan 0) (And (exprs (Same (Col 0) (Col 3) ∷ Not (IsNull (Col 4)) ∷ [])))

with_both : Plan
with_both = Project (Col 0 ∷ Col 4 ∷ Col 8 ∷ []) (Left with_name (Scan 0) (And (exprs (Same (Col 6) (Col 0) ∷ Not (IsNull (Col 8)) ∷ []))))

with_one : Plan
with_one = Project (Col 0 ∷ Col 4 ∷ Col 2 ∷ []) with_name

alone : Plan
alone = Project (Col 0 ∷ Col 1 ∷ Col 2 ∷ []) (Scan 0)

both-one : self_left two_tables with_both ≡ Some (with_one, fell.Weight)
unfolding column two_tables with_name with_both with_one is_left is_null_unless
both-one = refl

one-alone : self_left two_tables with_one ≡ Some (alone, fell.Weight)
unfolding column two_tables with_name with_one alone is_left is_null_unless
one-alone = refl

-- (7, a, 1) and (8, NULL, NULL)
both-rows : rows_of two_tables with_both employed ≡ (cell.Int (55 ∷ []) ∷ cell.Text (97 ∷ []) ∷ cell.Int (49 ∷ []) ∷ []) ∷ (cell.Int (56 ∷ []) ∷ cell.Null ∷ cell.Null ∷ []) ∷ []
unfolding column two_tables employed with_name with_both
both-rows = refl

alone-rows : rows_of two_tables alone employed ≡ (cell.Int (55 ∷ []) ∷ cell.Text (97 ∷ []) ∷ cell.Int (49 ∷ []) ∷ []) ∷ (cell.Int (56 ∷ []) ∷ cell.Null ∷ cell.Null ∷ []) ∷ []
unfolding column two_tables employed alone
alone-rows = refl

-- ---- each department with its leader

with_leader : Plan
with_leader = Left (Scan 1) (Scan 0) (Same (Col 2) (Col 1))

leader_joined : Plan
leader_joined = Join (plans (Scan 1 ∷ Scan 0 ∷ [])) (Same (Col 2) (Col 1))

leader-there : reference_left two_tables with_leader ≡ Some (leader_joined, fell.Weight)
unfolding column two_tables with_leader leader_joined
leader-there = refl

-- ---- the leader's key of each department

leader_key : Plan
leader_key = Project (Col 2 ∷ []) with_leader

key_alone : Plan
key_alone = Project (Col 1 ∷ []) (Scan 1)

leader-gone : parent_left two_tables leader_key ≡ Some (key_alone, fell.Weight)
unfolding column two_tables with_leader leader_key key_alone is_left
leader-gone = refl

-- ---- the departments that each employee leads

with_led : Plan
with_led = Project (Col 6 ∷ []) (Left (Scan 0) (Join (plans (Scan 0 ∷ Scan 1 ∷ [])) (Same (Col 0) (Col 4))) (Same (Col 0) (Col 3)))

led : Plan
led = Project (Col 3 ∷ []) (Left (Scan 0) (Join (plans (Scan 1 ∷ [])) (truth_const true)) (And (exprs (Same (Col 0) (Col 4) ∷ Same (Col 0) (Col 0) ∷ []))))

member-gone : self_left_member two_tables with_led ≡ Some (led, fell.Weight)
unfolding column two_tables with_led led
member-gone = refl
