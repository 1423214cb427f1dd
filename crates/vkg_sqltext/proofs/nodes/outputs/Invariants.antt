use Rattle.std.proofs.Common.{◌≡◌, ◌++◌, drop, map}
use Rattle.vkg_expr.specs.Seen.{expr_seen}
use Rattle.vkg_sqltext.specs.Text.{outputs}
use Rattle.vkg_sqltext.proofs.nodes.outputs.Given as goal

abbrev pub invariant-loop-i : goal.invariant-loop-i
invariant-loop-i l = outputs 0 (map expr_seen l.es) ≡ l.texts ++ outputs l.i (map expr_seen (drop l.i l.es))
