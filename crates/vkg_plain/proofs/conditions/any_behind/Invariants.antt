use Rattle.std.proofs.Common.{◌≡◌, fold, take}
use Rattle.vkg_plain.specs.Chains.{either_value}
use Rattle.vkg_plain.proofs.conditions.any_behind.Given as goal

abbrev pub invariant-loop-next : goal.invariant-loop-next
invariant-loop-next l = l.any ≡ fold either_value l.fn.first (take l.next-index l.more)
