-- The expressions that are left, behind the number so far, have the number of all.
use Rattle.std.proofs.Common.{◌≡◌, drop, map}
use Rattle.vkg_expr.specs.Expr.{exprs}
use Rattle.vkg_expr.specs.Seen.{expr_seen}
use Rattle.vkg_unions.specs.Key.{exprs_key}
use Rattle.vkg_unions.proofs.key.+expr_keys.Given as goal

abbrev pub invariant-exprs_key-loop-e : goal.invariant-exprs_key-loop-e
invariant-exprs_key-loop-e l = exprs_key l.key (exprs (map expr_seen l.es)) ≡ exprs_key l.all (exprs (map expr_seen (drop l.e-index l.es)))
