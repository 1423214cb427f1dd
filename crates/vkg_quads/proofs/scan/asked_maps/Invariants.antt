use Rattle.std.proofs.Common.{◌≡◌, ◌++◌, ◌∷◌, Some, map, flat_map, take}
use Rattle.std.specs.Option.{option_copied}
use Rattle.vkg_maps.specs.DataFaults.{asked}
use Rattle.vkg_quads.proofs.scan.asked_maps.Given as goal

abbrev pub invariant-loop-po : goal.invariant-loop-po
invariant-loop-po l = map option_copied l.out.items ≡ Some l.m.subject ∷ map Some l.m.graphs ++ flat_map (λ po. map Some po.predicates ++ map asked po.objects ++ map Some po.graphs) (take l.po-index l.po-items)
