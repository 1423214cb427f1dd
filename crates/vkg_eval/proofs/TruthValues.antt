-- A condition on a row has a truth or NULL for its value.
use Rattle.std.proofs.Common.{◌≡◌, sym, subst}
use Rattle.vkg_cells.specs.declared.cell.Cell.{Cell}
use Rattle.vkg_cells.specs.declared.cell.SqlType.TheVariants as kind
use Rattle.vkg_schema.specs.Rows.{Row}
use Rattle.vkg_expr.specs.Expr.{Expr}
use Rattle.vkg_expr.specs.Laws.{IsCondition}
use Rattle.vkg_expr.specs.Steps.{Fits}
use Rattle.vkg_expr.specs.Value.{value_of}
use Rattle.vkg_expr.proofs.TypedParts.{condition-fits, condition-typed}

pub condition-value_fits : (c : Expr) (row : Row) (d : Cell) → d ≡ value_of c row → IsCondition c row → Fits kind.Bool d
condition-value_fits c row d e h = subst (Fits kind.Bool) (sym e) (condition-fits c row h)

pub ruleset conditions = (condition-typed, condition-value_fits)
