use Rattle.std.proofs.Common.{map, take}
use Rattle.vkg_r2rml.specs.Gathered.{IsGathered}
use Rattle.vkg_r2rml.specs.ReferencingMap.{condition}
use Rattle.vkg_r2rml.proofs.referencing_map.each_condition.Given as goal

abbrev pub invariant-loop-node : goal.invariant-loop-node
invariant-loop-node l = IsGathered (map (condition l.graph l.schema l.table l.parent) (take l.node-index l.nodes)) l.made
