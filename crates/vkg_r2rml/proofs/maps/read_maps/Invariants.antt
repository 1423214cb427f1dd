use Rattle.std.proofs.Common.{◌≡◌, map, take}
use Rattle.vkg_r2rml.specs.TriplesMaps.{map_node, nodes_of_maps}
use Rattle.vkg_r2rml.specs.Index.{IsIndexOf}
use Rattle.vkg_r2rml.proofs.maps.read_maps.Given as goal

abbrev pub invariant-loop-t : goal.invariant-loop-t
invariant-loop-t l = record {
  indexed : IsIndexOf l.nodes l.index;
  maps : l.nodes ≡ map (map_node l.graph l.schema) (nodes_of_maps (take l.t-index l.t-items));
}
