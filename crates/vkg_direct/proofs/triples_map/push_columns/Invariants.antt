use Rattle.std.proofs.Common.{◌≡◌, ◌++◌, map, drop}
use Rattle.std.specs.List.{enumerate_from}
use Rattle.vkg_direct.specs.DirectMapping.{column_property}
use Rattle.vkg_direct.proofs.triples_map.push_columns.Given as goal

abbrev pub invariant-loop-k : goal.invariant-loop-k
invariant-loop-k l = l.fn.out ++ map (column_property l.base l.table) (enumerate_from 0 l.columns) ≡ l.out ++ map (column_property l.base l.table) (enumerate_from l.k (drop l.k l.columns))
