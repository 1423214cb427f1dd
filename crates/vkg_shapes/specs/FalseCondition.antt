-- Where a condition is the constant false or NULL no row, or no pair, passes.
use Rattle.std.specs.Prelude.{Bool, true, false, not, None, if◌then◌else◌}
use Rattle.vkg_cells.specs.declared.cell.Cell.TheVariants as cell
use Rattle.vkg_expr.specs.Expr.{Expr, Const}
use Rattle.vkg_plan.specs.Kinds.{plan_kinds}
use Rattle.vkg_plan.specs.Plan.{Select, Join, Left}
use Rattle.vkg_rules.specs.Steps.{Rule}
use Rattle.vkg_shapes.specs.Parts.{emptied, padded}

-- the constants that are not true: false, and NULL, which is unknown (SQL-92, 8.12)
abbrev pub is_never : Expr → Bool
is_never (Const (cell.Bool b) k) = not b
is_never (Const cell.Null k) = true
is_never c = false

-- SQL-92, 7.5 and 7.6: no row of such a selection or join; each left row of such a left join, with NULLs
abbrev pub false_condition : Rule
false_condition schema (Select c p) = if is_never c then emptied (plan_kinds schema (Select c p)) else None
false_condition schema (Join ps c) = if is_never c then emptied (plan_kinds schema (Join ps c)) else None
false_condition schema (Left p q c) = if is_never c then padded (plan_kinds schema p) (plan_kinds schema q) p else None
false_condition schema p = None
