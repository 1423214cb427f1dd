-- What is left of the list gives the whole.
use Rattle.std.proofs.Common.{◌≡◌, drop, map}
use Rattle.std.specs.List.{list_any}
use Rattle.vkg_expr.specs.Seen.{expr_seen}
use Rattle.vkg_moves.specs.LeftToJoin.{fails_on_nulls}
use Rattle.vkg_moves.proofs.left_to_join.any_fails.Given as goal

abbrev pub invariant-loop-c : goal.invariant-loop-c
invariant-loop-c l = list_any (fails_on_nulls l.n) (map expr_seen l.list) ≡ list_any (fails_on_nulls l.n) (map expr_seen (drop l.c-index l.list))
