use Rattle.std.proofs.Common.{◌≡◌, ◌++◌, map, drop}
use Rattle.std.specs.List.{enumerate_from}
use Rattle.vkg_direct.specs.DirectMapping.{direct_map, maps_of}
use Rattle.vkg_direct.proofs.triples_map.direct_maps.Given as goal

abbrev pub invariant-loop-k : goal.invariant-loop-k
invariant-loop-k l = maps_of l.base l.tables ≡ l.out ++ map (direct_map l.base) (enumerate_from l.k (drop l.k l.tables))
