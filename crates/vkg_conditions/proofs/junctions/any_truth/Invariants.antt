-- The list is as what is left of it.
use Rattle.std.proofs.Common.{◌≡◌, drop, map}
use Rattle.std.specs.List.{list_any}
use Rattle.vkg_expr.specs.Seen.{expr_seen}
use Rattle.vkg_conditions.specs.Conditions.{is_truth}
use Rattle.vkg_conditions.proofs.junctions.any_truth.Given as goal

abbrev pub invariant-loop-e : goal.invariant-loop-e
invariant-loop-e l = list_any (is_truth l.truth) (map expr_seen l.list) ≡ list_any (is_truth l.truth) (map expr_seen (drop l.e-index l.list))
