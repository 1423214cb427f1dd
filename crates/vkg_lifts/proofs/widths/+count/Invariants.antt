-- What was counted, with what is left, is the whole.
use Rattle.std.proofs.Common.{◌≡◌, ◌+◌, drop}
use Rattle.vkg_rules.specs.StepSeen.{plans_seen}
use Rattle.vkg_lifts.specs.Counted.{counted_beside}
use Rattle.vkg_lifts.proofs.widths.+count.Given as goal

abbrev pub invariant-count_beside-loop-p : goal.invariant-count_beside-loop-p
invariant-count_beside-loop-p l = counted_beside l.schema (plans_seen l.ps) ≡ l.all + counted_beside l.schema (plans_seen (drop l.p-index l.ps))
