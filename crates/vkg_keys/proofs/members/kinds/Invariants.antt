-- The columns that were counted.
use Rattle.std.proofs.Common.{◌≡◌, length, map, take}
use Rattle.vkg_plan.specs.Seen.{plan_seen}
use Rattle.vkg_keys.specs.Members.{widths}
use Rattle.vkg_keys.proofs.members.kinds.Given as goal

abbrev pub invariant-loop-i : goal.invariant-loop-i
invariant-loop-i l = length l.all ≡ widths l.schema (map plan_seen (take l.i l.ps))
