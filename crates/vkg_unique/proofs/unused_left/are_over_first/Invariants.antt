use Rattle.std.proofs.Common.{◌≡◌, drop, map}
use Rattle.std.specs.List.{list_all}
use Rattle.vkg_expr.specs.Seen.{expr_seen}
use Rattle.vkg_unique.specs.UnusedLeft.{is_over_first}
use Rattle.vkg_unique.proofs.unused_left.are_over_first.Given as goal

abbrev pub invariant-loop-e : goal.invariant-loop-e
invariant-loop-e l = list_all (is_over_first l.n) (map expr_seen l.es) ≡ list_all (is_over_first l.n) (map expr_seen (drop l.e-index l.es))
