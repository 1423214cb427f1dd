use Rattle.std.proofs.Common.{◌≡◌, ◌≤◌, drop, length}
use Rattle.vkg_algebra.specs.Evaluation.{graph_names}
use Rattle.vkg_plain.proofs.graphs.graph_names.Given as goal

abbrev pub invariant-loop-i : goal.invariant-loop-i
invariant-loop-i l = (l.i ≤ length l.quads) × (l.names ≡ graph_names (drop l.i l.quads))

abbrev pub decreases-loop-i : goal.decreases-loop-i
decreases-loop-i l = l.i
