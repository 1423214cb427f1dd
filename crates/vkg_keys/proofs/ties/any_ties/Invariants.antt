-- What is left of the list gives the whole.
use Rattle.std.proofs.Common.{◌≡◌, ◌+◌, drop, map}
use Rattle.std.specs.List.{list_any}
use Rattle.vkg_expr.specs.Seen.{expr_seen}
use Rattle.vkg_keys.specs.Ties.{ties}
use Rattle.vkg_keys.proofs.ties.any_ties.Given as goal

abbrev pub invariant-loop-c : goal.invariant-loop-c
invariant-loop-c l =
    list_any (ties (l.first + l.pair.0) (l.second + l.pair.1)) (map expr_seen l.list) ≡ list_any (ties (l.first + l.pair.0) (l.second + l.pair.1)) (map expr_seen (drop l.c-index l.list))
