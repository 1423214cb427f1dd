use Rattle.std.proofs.Common.{map, take}
use Rattle.vkg_r2rml.specs.Gathered.{IsGathered}
use Rattle.vkg_r2rml.specs.TriplesMap.{predicate_object_map}
use Rattle.vkg_r2rml.proofs.predicate_object_map.each_map.Given as goal

abbrev pub invariant-loop-node : goal.invariant-loop-node
invariant-loop-node l = IsGathered (map (predicate_object_map l.graph l.schema l.base l.maps l.table) (take l.node-index l.found)) l.made
