-- The list is as what is left of it.
use Rattle.std.proofs.Common.{◌≡◌, drop, map}
use Rattle.std.specs.List.{list_any}
use Rattle.vkg_expr.specs.Seen.{expr_seen}
use Rattle.vkg_same.specs.SameExpr.{same_expr}
use Rattle.vkg_sure.proofs.members.is_among.Given as goal

abbrev pub invariant-loop-other : goal.invariant-loop-other
invariant-loop-other l = list_any (same_expr (expr_seen l.e)) (map expr_seen l.list) ≡ list_any (same_expr (expr_seen l.e)) (map expr_seen (drop l.other-index l.list))
