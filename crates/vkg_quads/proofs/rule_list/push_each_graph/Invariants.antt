use Rattle.std.proofs.Common.{◌≡◌, ◌++◌, take, map, Some}
use Rattle.vkg_maps.specs.QuadRules.{object_rule}
use Rattle.vkg_quads.proofs.rule_list.push_each_graph.Given as goal

abbrev pub invariant-loop-g : goal.invariant-loop-g
invariant-loop-g l = l.out ≡ l.fn.out ++ map (λ g. object_rule l.maps l.m l.p l.o (Some g)) (take l.g-index l.graphs)
