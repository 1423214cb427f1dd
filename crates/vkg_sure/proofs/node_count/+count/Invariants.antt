-- What is left of the list gives the whole, behind what was passed.
use Rattle.std.proofs.Common.{◌≡◌, ◌+◌, drop, length, map}
use Rattle.vkg_expr.specs.Expr.{exprs}
use Rattle.vkg_expr.specs.Seen.{expr_seen}
use Rattle.vkg_rules.specs.Measure.{sizes}
use Rattle.vkg_sure.proofs.node_count.+count.Given as goal

abbrev pub invariant-nodes_of_each-loop-e : goal.invariant-nodes_of_each-loop-e
invariant-nodes_of_each-loop-e l = sizes (exprs (map expr_seen l.list)) ≡ length l.marks + sizes (exprs (map expr_seen (drop l.e-index l.list)))
