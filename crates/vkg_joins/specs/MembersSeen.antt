-- What members and a condition of the program stand for.
use Rattle.std.specs.Prelude.{List}
use Rattle.vkg_expr.specs.declared.expr.Expr.{Expr as ExprValue}
use Rattle.vkg_expr.specs.Seen.{expr_seen}
use Rattle.vkg_plan.specs.declared.plan.Plan.{Plan as PlanValue}
use Rattle.vkg_rules.specs.StepSeen.{plans_seen}
use Rattle.vkg_joins.specs.JoinInJoin.{Members}

abbrev pub members_seen : List PlanValue × ExprValue → Members
members_seen x = (plans_seen x.0, expr_seen x.1)
