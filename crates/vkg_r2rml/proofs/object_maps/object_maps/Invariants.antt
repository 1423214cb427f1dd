use Rattle.std.proofs.Common.{map, take}
use Rattle.vkg_r2rml.specs.Gathered.{IsGathered}
use Rattle.vkg_r2rml.specs.TriplesMap.{object_map}
use Rattle.vkg_r2rml.proofs.object_maps.object_maps.Given as goal

abbrev pub invariant-loop-place : goal.invariant-loop-place
invariant-loop-place l = IsGathered (map (object_map l.graph l.schema l.base l.maps l.table) (take l.place-index l.found)) l.made
