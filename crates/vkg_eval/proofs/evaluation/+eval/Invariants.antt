-- The values so far, and those that are left; the weight falls.
use Rattle.std.proofs.Common.{◌≡◌, ◌++◌, ◌+◌, ◌*◌, drop, map}
use Rattle.vkg_expr.specs.Expr.{exprs}
use Rattle.vkg_expr.specs.Seen.{expr_seen}
use Rattle.vkg_expr.specs.Value.{values_of}
use Rattle.vkg_expr.proofs.Weights.{weight_of, weight_of_each}
use Rattle.vkg_eval.proofs.evaluation.+eval.Given as goal

abbrev pub decreases-eval_on : goal.decreases-eval_on
decreases-eval_on l = 2 * weight_of l.e.now

abbrev pub decreases-eval_each : goal.decreases-eval_each
decreases-eval_each l = 2 * weight_of_each l.list.now + 1

abbrev pub invariant-eval_each-loop-e : goal.invariant-eval_each-loop-e
invariant-eval_each-loop-e l = values_of (exprs (map expr_seen l.list)) l.row ≡ l.values ++ values_of (exprs (map expr_seen (drop l.e-index l.list))) l.row
