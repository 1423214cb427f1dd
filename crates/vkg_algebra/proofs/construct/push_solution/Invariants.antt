use Rattle.std.proofs.Common.{◌≡◌, ◌++◌, flat_map, map, take}
use Rattle.vkg_terms.specs.NQuads.{line}
use Rattle.vkg_order.specs.Values.{bound}
use Rattle.vkg_algebra.specs.Construct.{made}
use Rattle.vkg_algebra.proofs.construct.push_solution.Given as goal

abbrev pub invariant-loop-triple : goal.invariant-loop-triple
invariant-loop-triple l = l.out ≡ l.fn.out ++ map line (flat_map (made l.variables l.labels l.number (map bound l.cells)) (take l.triple-index l.template))
