-- What is left of the list gives the whole.
use Rattle.std.proofs.Common.{◌≡◌, drop, map}
use Rattle.std.specs.List.{list_all}
use Rattle.vkg_expr.specs.Expr.{exprs}
use Rattle.vkg_expr.specs.Seen.{expr_seen}
use Rattle.vkg_expr.specs.Strict.{columns_each}
use Rattle.vkg_key_joins.specs.ParentJoin.{is_given}
use Rattle.vkg_key_joins.proofs.parent_use.+given.Given as goal

abbrev pub invariant-list_names_given-loop-e : goal.invariant-list_names_given-loop-e
invariant-list_names_given-loop-e l =
    list_all (is_given l.first l.n l.pairs) (columns_each (exprs (map expr_seen l.list))) ≡ list_all (is_given l.first l.n l.pairs) (columns_each (exprs (map expr_seen (drop l.e-index l.list))))
