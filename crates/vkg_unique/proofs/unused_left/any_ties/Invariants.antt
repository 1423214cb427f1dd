use Rattle.std.proofs.Common.{◌≡◌, ◌+◌, drop, map}
use Rattle.std.specs.List.{list_any}
use Rattle.vkg_expr.specs.Seen.{expr_seen}
use Rattle.vkg_keys.specs.Ties.{ties_value}
use Rattle.vkg_unique.specs.UnusedLeft.{is_over_first}
use Rattle.vkg_unique.proofs.unused_left.any_ties.Given as goal

abbrev pub invariant-loop-c : goal.invariant-loop-c
invariant-loop-c l =
    list_any (ties_value (is_over_first l.n) (l.n + l.column)) (map expr_seen l.list)
    ≡ list_any (ties_value (is_over_first l.n) (l.n + l.column)) (map expr_seen (drop l.c-index l.list))
