use Rattle.std.proofs.Common.{◌≡◌, ◌+◌, flat_map, drop}
use Rattle.std.specs.List.{enumerate_from}
use Rattle.vkg_lists.specs.Firsts.{first_of}
use Rattle.vkg_maps.specs.DataFaults.{map_faults}
use Rattle.vkg_quads.proofs.scan.scan_maps.Given as goal

abbrev pub invariant-loop-k : goal.invariant-loop-k
invariant-loop-k l = first_of (flat_map (map_faults l.base l.db.tables) (enumerate_from 1 l.maps)) ≡ first_of (flat_map (map_faults l.base l.db.tables) (enumerate_from (l.k + 1) (drop l.k l.maps)))
