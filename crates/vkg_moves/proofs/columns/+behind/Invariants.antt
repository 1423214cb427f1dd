-- What is left of the list gives the whole.
use Rattle.std.proofs.Common.{◌≡◌, drop, map, nat_le}
use Rattle.std.specs.List.{list_any}
use Rattle.vkg_expr.specs.Expr.{exprs}
use Rattle.vkg_expr.specs.Seen.{expr_seen}
use Rattle.vkg_expr.specs.Strict.{columns_each}
use Rattle.vkg_moves.proofs.columns.+behind.Given as goal

abbrev pub invariant-any_names_behind-loop-e : goal.invariant-any_names_behind-loop-e
invariant-any_names_behind-loop-e l =
    list_any (nat_le l.n) (columns_each (exprs (map expr_seen l.list))) ≡ list_any (nat_le l.n) (columns_each (exprs (map expr_seen (drop l.e-index l.list))))
