use Rattle.std.proofs.Common.{◌≡◌, ◌+◌, ◌++◌, drop}
use Rattle.vkg_sqltext.specs.Text.{sources}
use Rattle.vkg_sqltext.proofs.nodes.sources.Given as goal

abbrev pub invariant-loop-i : goal.invariant-loop-i
invariant-loop-i l = sources 1 l.texts ≡ l.named ++ sources (l.i + 1) (drop l.i l.texts)
