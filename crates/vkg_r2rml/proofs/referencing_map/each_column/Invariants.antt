use Rattle.std.proofs.Common.{map, take}
use Rattle.vkg_r2rml.specs.Gathered.{IsGathered}
use Rattle.vkg_r2rml.specs.ReferencingMap.{column_if_known}
use Rattle.vkg_r2rml.proofs.referencing_map.each_column.Given as goal

abbrev pub invariant-loop-value : goal.invariant-loop-value
invariant-loop-value l = IsGathered (map (column_if_known l.schema l.table) (take l.value-index l.values)) l.made
