use Rattle.std.proofs.Common.{◌≡◌, ◌++◌, map, take}
use Rattle.vkg_direct.specs.DirectMapping.{reference_property}
use Rattle.vkg_direct.proofs.triples_map.push_references.Given as goal

abbrev pub invariant-loop-reference : goal.invariant-loop-reference
invariant-loop-reference l = l.out ≡ l.fn.out ++ map (reference_property l.base l.table) (take l.reference-index l.references)
