use Rattle.std.proofs.Common.{◌≡◌, ◌+◌, map, flat_map, drop}
use Rattle.std.specs.Option.{option_copied}
use Rattle.std.specs.List.{enumerate_from}
use Rattle.vkg_lists.specs.Firsts.{first_of}
use Rattle.vkg_maps.specs.DataFaults.{row_faults}
use Rattle.vkg_quads.proofs.scan.scan_rows.Given as goal

abbrev pub invariant-loop-k : goal.invariant-loop-k
invariant-loop-k l = first_of (flat_map (row_faults l.base (map option_copied l.terms) l.place) (enumerate_from 1 l.rows)) ≡ first_of (flat_map (row_faults l.base (map option_copied l.terms) l.place) (enumerate_from (l.k + 1) (drop l.k l.rows)))
