use Rattle.std.proofs.Common.{◌≡◌, fold, take}
use Rattle.vkg_plain.specs.Chains.{both_value}
use Rattle.vkg_plain.proofs.conditions.all_behind.Given as goal

abbrev pub invariant-loop-next : goal.invariant-loop-next
invariant-loop-next l = l.all ≡ fold both_value l.fn.first (take l.next-index l.more)
