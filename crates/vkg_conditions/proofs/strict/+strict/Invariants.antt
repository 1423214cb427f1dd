-- The list is as what is left of it.
use Rattle.std.proofs.Common.{◌≡◌, drop, map}
use Rattle.vkg_expr.specs.Expr.{exprs}
use Rattle.vkg_expr.specs.Seen.{expr_seen}
use Rattle.vkg_expr.specs.Strict.{are_strict}
use Rattle.vkg_conditions.proofs.strict.+strict.Given as goal

abbrev pub invariant-are_strict-loop-e : goal.invariant-are_strict-loop-e
invariant-are_strict-loop-e l = are_strict (exprs (map expr_seen l.list)) ≡ are_strict (exprs (map expr_seen (drop l.e-index l.list)))
