-- What is left of the list gives the whole, behind what was passed.
use Rattle.std.proofs.Common.{◌≡◌, ◌++◌, drop, map}
use Rattle.vkg_plan.specs.Plan.{plans}
use Rattle.vkg_plan.specs.Seen.{plan_seen}
use Rattle.vkg_unique.specs.Sure.{sure_beside}
use Rattle.vkg_unique.proofs.sure.+sure.Given as goal

abbrev pub invariant-sure_beside-loop-p : goal.invariant-sure_beside-loop-p
invariant-sure_beside-loop-p l = sure_beside l.schema (plans (map plan_seen l.ps)) ≡ l.flags ++ sure_beside l.schema (plans (map plan_seen (drop l.p-index l.ps)))
