use Rattle.std.proofs.Common.{◌≡◌, ◌++◌, drop}
use Rattle.std.specs.Prelude.{filter_map}
use Rattle.vkg_term_maps.specs.Graph.{object_if}
use Rattle.vkg_term_maps.specs.Index.{given_at}
use Rattle.vkg_term_maps.proofs.graph.objects_at.Given as goal

abbrev pub invariant-loop-number : goal.invariant-loop-number
invariant-loop-number l = filter_map (given_at (object_if l.node l.property) l.triples) l.numbers ≡ l.found ++ filter_map (given_at (object_if l.node l.property) l.triples) (drop l.number-index l.numbers)
