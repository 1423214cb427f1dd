-- What lifted expressions of the program stand for.
use Rattle.std.specs.Prelude.{List, map}
use Rattle.vkg_expr.specs.declared.expr.Expr.{Expr as ExprValue}
use Rattle.vkg_expr.specs.Expr.{Expr}
use Rattle.vkg_expr.specs.Seen.{expr_seen}

abbrev pub exprs_seen : List ExprValue → List Expr
exprs_seen = map expr_seen
