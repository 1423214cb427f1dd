-- A selection by the constant true is dropped.
use Rattle.std.specs.Prelude.{Bool, false, None}
use Rattle.std.specs.Bool.{then_some}
use Rattle.vkg_cells.specs.declared.cell.Cell.TheVariants as cell
use Rattle.vkg_expr.specs.Expr.{Expr, Const}
use Rattle.vkg_plan.specs.Plan.{Select}
use Rattle.vkg_rules.specs.declared.rewrite.Fell.TheVariants as fell
use Rattle.vkg_rules.specs.Steps.{Rule}

-- the constant true
abbrev pub is_true_const : Expr → Bool
is_true_const (Const (cell.Bool b) k) = b
is_true_const c = false

-- SQL-92, 7.6: each row for which the condition is true stays
abbrev pub select_true : Rule
select_true schema (Select c p) = then_some (is_true_const c) (p, fell.Weight)
select_true schema p = None
