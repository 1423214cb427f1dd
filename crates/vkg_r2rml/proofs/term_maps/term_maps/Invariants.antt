use Rattle.std.proofs.Common.{map, take}
use Rattle.vkg_r2rml.specs.Gathered.{IsGathered}
use Rattle.vkg_r2rml.specs.TriplesMap.{term_map}
use Rattle.vkg_r2rml.proofs.term_maps.term_maps.Given as goal

abbrev pub invariant-loop-place : goal.invariant-loop-place
invariant-loop-place l = IsGathered (map (term_map l.graph l.columns l.base l.role) (take l.place-index l.places)) l.made
