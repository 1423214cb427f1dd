-- What a part of the program stands for.
use Rattle.vkg_expr.specs.declared.expr.Expr.{Expr as ExprValue}
use Rattle.vkg_expr.specs.Seen.{expr_seen}
use Rattle.vkg_plan.specs.declared.plan.Plan.{Plan as PlanValue}
use Rattle.vkg_plan.specs.Seen.{plan_seen}
use Rattle.vkg_moves.specs.MergeSelects.{Part}

abbrev pub part_seen : PlanValue × ExprValue → Part
part_seen x = (plan_seen x.0, expr_seen x.1)
