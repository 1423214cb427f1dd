use Rattle.std.proofs.Common.{◌≡◌, drop, map}
use Rattle.std.specs.List.{list_all}
use Rattle.vkg_expr.specs.Seen.{expr_seen}
use Rattle.vkg_expr.specs.Value.{holds}
use Rattle.vkg_eval.proofs.conditions.all_hold.Given as goal

abbrev pub invariant-loop-c : goal.invariant-loop-c
invariant-loop-c l = list_all (λ c. holds c l.row) (map expr_seen l.list) ≡ list_all (λ c. holds c l.row) (map expr_seen (drop l.c-index l.list))
