use Rattle.std.proofs.Common.{◌≡◌, take}
use Rattle.vkg_schema.proofs.copy.copy_keys.Given as goal

abbrev pub invariant-loop-key : goal.invariant-loop-key
invariant-loop-key l = l.copies ≡ take l.key-index l.key-items
