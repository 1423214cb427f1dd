use Rattle.std.proofs.Common.{◌≡◌, take}
use Rattle.vkg_unions.specs.Key.{keys_of}
use Rattle.vkg_unions.proofs.key.keys.Given as goal

abbrev pub invariant-loop-p : goal.invariant-loop-p
invariant-loop-p l = l.all ≡ keys_of (take l.p-index l.ps)
