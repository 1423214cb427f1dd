use Rattle.std.proofs.Common.{◌≡◌, map, take}
use Rattle.vkg_expr.specs.Seen.{expr_seen}
use Rattle.vkg_sparql.specs.Seen.{condition_seen}
use Rattle.vkg_unfolded.specs.Conditions.{truth_expr}
use Rattle.vkg_unfolded.specs.Unfolded.{merged}
use Rattle.vkg_unfold.proofs.conditions.+conditions.Given as goal

abbrev pub invariant-truths-loop-condition : goal.invariant-truths-loop-condition
invariant-truths-loop-condition l = map expr_seen l.found ≡ map (λ c. truth_expr (merged l.mode l.left l.right) (condition_seen c)) (take l.condition-index l.conditions)
