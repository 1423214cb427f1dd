use Rattle.std.proofs.Common.{◌≡◌, ◌++◌, take, flat_map}
use Rattle.vkg_maps.specs.QuadRules.{predicate_object_rules}
use Rattle.vkg_quads.proofs.rule_list.push_predicate_objects.Given as goal

abbrev pub invariant-loop-po : goal.invariant-loop-po
invariant-loop-po l = l.out ≡ l.fn.out ++ flat_map (predicate_object_rules l.maps l.m) (take l.po-index l.pos)
