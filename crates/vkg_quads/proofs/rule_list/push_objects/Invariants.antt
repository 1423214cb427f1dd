use Rattle.std.proofs.Common.{◌≡◌, ◌++◌, take, map, flat_map}
use Rattle.vkg_maps.specs.QuadRules.{object_rule, targets}
use Rattle.vkg_quads.proofs.rule_list.push_objects.Given as goal

abbrev pub invariant-loop-o : goal.invariant-loop-o
invariant-loop-o l = l.out ≡ l.fn.out ++ flat_map (λ o. map (object_rule l.maps l.m l.p o) (targets (l.m.graphs ++ l.graphs))) (take l.o-index l.objects)
