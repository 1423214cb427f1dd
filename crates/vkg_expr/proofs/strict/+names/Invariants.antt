use Rattle.std.proofs.Common.{◌≡◌, drop, map}
use Rattle.vkg_expr.specs.Expr.{exprs}
use Rattle.vkg_expr.specs.Seen.{expr_seen}
use Rattle.vkg_expr.specs.Strict.{any_names_column}
use Rattle.vkg_expr.proofs.strict.+names.Given as goal

abbrev pub invariant-any_names_column-loop-e : goal.invariant-any_names_column-loop-e
invariant-any_names_column-loop-e l = any_names_column (exprs (map expr_seen l.list)) ≡ any_names_column (exprs (map expr_seen (drop l.e-index l.list)))
