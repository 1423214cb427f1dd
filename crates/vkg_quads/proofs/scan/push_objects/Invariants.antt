use Rattle.std.proofs.Common.{◌≡◌, ◌++◌, map, take}
use Rattle.std.specs.Option.{option_copied}
use Rattle.vkg_maps.specs.DataFaults.{asked}
use Rattle.vkg_quads.proofs.scan.push_objects.Given as goal

abbrev pub invariant-loop-o : goal.invariant-loop-o
invariant-loop-o l = map option_copied l.out.items ≡ map option_copied l.fn.out.items ++ map asked (take l.o-index l.objects)
