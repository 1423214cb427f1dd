use Rattle.std.proofs.Common.{◌≡◌, ◌+◌, map, drop}
use Rattle.std.specs.Result.{result_err}
use Rattle.vkg_r2rml.specs.Mapping.{in_order}
use Rattle.vkg_r2rml.specs.Passed.{ArePassed}
use Rattle.vkg_r2rml.specs.TriplesMap.{triples_map}
use Rattle.vkg_r2rml.proofs.past_limit.first_fault.Given as goal

abbrev pub invariant-loop-k : goal.invariant-loop-k
invariant-loop-k l = record {
  faults :
      result_err (in_order (l.first + 1) (map (triples_map l.graph l.schema l.base l.maps) (drop l.first l.maps)))
      ≡ result_err (in_order (l.k + 1) (map (triples_map l.graph l.schema l.base l.maps) (drop l.k l.maps)));
  passed : ArePassed l.graph l.schema l.base l.passed;
}
