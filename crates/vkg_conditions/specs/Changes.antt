-- A change of expressions at their roots: what it makes of one, if it applies there.
use Rattle.std.specs.Prelude.{Option}
use Rattle.vkg_expr.specs.Expr.{Expr}

abbrev pub Changing : Type 0
Changing = Expr → Option Expr
