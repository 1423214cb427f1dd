use Rattle.std.proofs.Common.{◌≡◌, ◌+◌, map, drop}
use Rattle.std.specs.Prelude.{sum_by}
use Rattle.vkg_lists.specs.Results.{followed_by}
use Rattle.vkg_maps.specs.QuadRules.{rule_limit}
use Rattle.vkg_r2rml.specs.Mapping.{in_order}
use Rattle.vkg_r2rml.specs.RuleCount.{rules_of_map}
use Rattle.vkg_r2rml.specs.TriplesMap.{triples_map}
use Rattle.vkg_r2rml.proofs.mapping.in_order.Given as goal

abbrev pub invariant-loop-k : goal.invariant-loop-k
invariant-loop-k l = record {
  maps :
      in_order 1 (map (triples_map l.graph l.schema l.base l.maps) l.maps)
      ≡ followed_by l.read (in_order (l.k + 1) (map (triples_map l.graph l.schema l.base l.maps) (drop l.k l.maps)));
  rules : l.left + sum_by rules_of_map l.read ≡ rule_limit;
}
