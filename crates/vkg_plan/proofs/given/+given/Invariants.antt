-- What is left of the list gives the whole, behind what was passed.
use Rattle.std.proofs.Common.{◌≡◌, ◌++◌, drop, map}
use Rattle.vkg_plan.specs.GivenKinds.{given_beside}
use Rattle.vkg_plan.specs.Plan.{plans}
use Rattle.vkg_plan.specs.Seen.{plan_seen}
use Rattle.vkg_plan.proofs.given.+given.Given as goal

abbrev pub invariant-given_beside-loop-p : goal.invariant-given_beside-loop-p
invariant-given_beside-loop-p l = given_beside l.schema (plans (map plan_seen l.ps)) ≡ l.kinds ++ given_beside l.schema (plans (map plan_seen (drop l.p-index l.ps)))
