-- What is left of the list gives the whole.
use Rattle.std.proofs.Common.{◌≡◌, drop, map}
use Rattle.std.specs.List.{list_all}
use Rattle.vkg_expr.specs.Seen.{expr_seen}
use Rattle.vkg_key_joins.specs.ParentJoin.{names_given}
use Rattle.vkg_key_joins.proofs.parent_use.all_name_given.Given as goal

abbrev pub invariant-loop-e : goal.invariant-loop-e
invariant-loop-e l = list_all (names_given l.first l.n l.pairs) (map expr_seen l.es) ≡ list_all (names_given l.first l.n l.pairs) (map expr_seen (drop l.e-index l.es))
