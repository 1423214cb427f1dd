use Rattle.std.proofs.Common.{◌≡◌, map, flat_map, drop}
use Rattle.std.specs.Option.{option_copied}
use Rattle.std.specs.List.{enumerate_from}
use Rattle.vkg_lists.specs.Firsts.{first_of}
use Rattle.vkg_maps.specs.DataFaults.{row_faults, faults_at}
use Rattle.vkg_quads.proofs.scan.scan_row.Given as goal

abbrev pub invariant-loop-term : goal.invariant-loop-term
invariant-loop-term l = first_of (row_faults l.base (map option_copied l.terms) l.place (l.row, l.cells)) ≡ first_of (flat_map (faults_at l.base l.place (l.row, l.cells)) (enumerate_from l.term (drop l.term (map option_copied l.terms))))
