-- What is left of the list gives the whole, behind what was passed.
use Rattle.std.proofs.Common.{◌≡◌, ◌++◌, drop, map}
use Rattle.vkg_plan.specs.Plan.{plans}
use Rattle.vkg_plan.specs.Seen.{plan_seen}
use Rattle.vkg_key_lefts.specs.Standing.{standing_beside}
use Rattle.vkg_key_lefts.proofs.standing.+standing.Given as goal

abbrev pub invariant-standing_beside-loop-p : goal.invariant-standing_beside-loop-p
invariant-standing_beside-loop-p l =
    standing_beside l.schema l.before (plans (map plan_seen l.ps)) ≡ l.all ++ standing_beside l.schema l.first (plans (map plan_seen (drop l.p-index l.ps)))
