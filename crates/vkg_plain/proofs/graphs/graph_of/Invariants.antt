use Rattle.std.proofs.Common.{◌≡◌, take}
use Rattle.vkg_algebra.specs.Evaluation.{graph_of}
use Rattle.vkg_plain.proofs.graphs.graph_of.Given as goal

abbrev pub invariant-loop-quad : goal.invariant-loop-quad
invariant-loop-quad l = l.triples ≡ graph_of (take l.quad-index l.quads) l.graph
