use Rattle.std.proofs.Common.{◌≡◌, ◌+◌, ◌++◌, drop, flat_map, map}
use Rattle.std.specs.List.{enumerate_from}
use Rattle.vkg_terms.specs.NQuads.{line}
use Rattle.vkg_algebra.specs.Construct.{found_triples}
use Rattle.vkg_algebra.proofs.construct.all_lines.Given as goal

abbrev pub invariant-loop-k : goal.invariant-loop-k
invariant-loop-k l =
    l.out ++ map line (flat_map (found_triples l.template l.variables l.labels) (enumerate_from (l.first + l.k) (drop l.k l.solutions)))
    ≡ map line (flat_map (found_triples l.template l.variables l.labels) (enumerate_from l.first l.solutions))
