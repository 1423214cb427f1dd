use Rattle.std.proofs.Common.{◌≡◌, take, flat_map}
use Rattle.vkg_maps.specs.QuadRules.{map_rules}
use Rattle.vkg_quads.proofs.rule_list.rules.Given as goal

abbrev pub invariant-loop-m : goal.invariant-loop-m
invariant-loop-m l = l.out ≡ flat_map (map_rules l.maps) (take l.m-index l.maps)
