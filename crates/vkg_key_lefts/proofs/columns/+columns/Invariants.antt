-- What is left of the list gives the whole, behind what was passed.
use Rattle.std.proofs.Common.{◌≡◌, ◌++◌, drop, map}
use Rattle.vkg_expr.specs.Expr.{exprs}
use Rattle.vkg_expr.specs.Seen.{expr_seen}
use Rattle.vkg_expr.specs.Strict.{columns_each}
use Rattle.vkg_key_lefts.proofs.columns.+columns.Given as goal

abbrev pub invariant-columns_of_each-loop-e : goal.invariant-columns_of_each-loop-e
invariant-columns_of_each-loop-e l = columns_each (exprs (map expr_seen l.list)) ≡ l.columns ++ columns_each (exprs (map expr_seen (drop l.e-index l.list)))
