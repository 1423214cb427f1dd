use Rattle.std.proofs.Common.{◌≡◌, take}
use Rattle.vkg_unique.specs.Sure.{unset}
use Rattle.vkg_unique.proofs.flags.unset.Given as goal

abbrev pub invariant-loop : goal.invariant-loop
invariant-loop l = l.flags ≡ unset (take l.index l.kinds)
