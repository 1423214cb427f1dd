use Rattle.std.proofs.Common.{◌≡◌, ◌++◌, take, map, flat_map}
use Rattle.vkg_maps.specs.QuadRules.{object_rule, targets}
use Rattle.vkg_quads.proofs.rule_list.push_predicate_object.Given as goal

abbrev pub invariant-loop-p : goal.invariant-loop-p
invariant-loop-p l = l.out ≡ l.fn.out ++ flat_map (λ p. flat_map (λ o. map (object_rule l.maps l.m p o) (targets (l.m.graphs ++ l.po.graphs))) l.po.objects) (take l.p-index l.p-items)
