-- What is left of the list gives the whole.
use Rattle.std.proofs.Common.{◌≡◌, drop, map}
use Rattle.vkg_expr.specs.Expr.{exprs}
use Rattle.vkg_expr.specs.Seen.{expr_seen}
use Rattle.vkg_moves.specs.Unknown.{one_unknown_behind}
use Rattle.vkg_moves.proofs.unknown.+unknown.Given as goal

abbrev pub invariant-any_unknown_behind-loop-e : goal.invariant-any_unknown_behind-loop-e
invariant-any_unknown_behind-loop-e l =
    one_unknown_behind l.n (exprs (map expr_seen l.list)) ≡ one_unknown_behind l.n (exprs (map expr_seen (drop l.e-index l.list)))
