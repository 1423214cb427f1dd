-- The list is as what is left of it.
use Rattle.std.proofs.Common.{◌≡◌, drop, map}
use Rattle.std.specs.List.{list_any}
use Rattle.vkg_expr.specs.Seen.{expr_seen}
use Rattle.vkg_equalities.specs.Decided.{makes_term}
use Rattle.vkg_sure.proofs.members.any_makes_term.Given as goal

abbrev pub invariant-loop-e : goal.invariant-loop-e
invariant-loop-e l = list_any makes_term (map expr_seen l.list) ≡ list_any makes_term (map expr_seen (drop l.e-index l.list))
