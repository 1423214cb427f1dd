use Rattle.std.proofs.Common.{◌≡◌, take}
use Rattle.vkg_schema.proofs.copy.copy_references.Given as goal

abbrev pub invariant-loop-reference : goal.invariant-loop-reference
invariant-loop-reference l = l.copies ≡ take l.reference-index l.reference-items
