use Rattle.std.proofs.Common.{◌≡◌, drop, map}
use Rattle.vkg_expr.specs.Expr.{exprs}
use Rattle.vkg_expr.specs.Seen.{expr_seen}
use Rattle.vkg_expr.specs.Typing.{no_column}
use Rattle.vkg_expr.proofs.typing.has_no_column.Given as goal

abbrev pub invariant-loop-e : goal.invariant-loop-e
invariant-loop-e l = no_column (exprs (map expr_seen l.list)) ≡ no_column (exprs (map expr_seen (drop l.e-index l.list)))
