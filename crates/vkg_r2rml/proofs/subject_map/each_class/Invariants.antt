use Rattle.std.proofs.Common.{map, take}
use Rattle.vkg_r2rml.specs.Gathered.{IsGathered}
use Rattle.vkg_r2rml.specs.TriplesMap.{class}
use Rattle.vkg_r2rml.proofs.subject_map.each_class.Given as goal

abbrev pub invariant-loop-class : goal.invariant-loop-class
invariant-loop-class l = IsGathered (map class (take l.class-index l.found)) l.made
