-- What is left of the list gives the whole, behind what was passed.
use Rattle.std.proofs.Common.{◌≡◌, ◌++◌, drop, map}
use Rattle.vkg_plan.specs.Plan.{plans}
use Rattle.vkg_plan.specs.Seen.{plan_seen}
use Rattle.vkg_nulls.specs.KnownColumns.{known_beside}
use Rattle.vkg_nulls.proofs.known_columns.+known.Given as goal

abbrev pub invariant-known_beside-loop-p : goal.invariant-known_beside-loop-p
invariant-known_beside-loop-p l = known_beside l.schema (plans (map plan_seen l.ps)) ≡ l.flags ++ known_beside l.schema (plans (map plan_seen (drop l.p-index l.ps)))
