-- What is left of the list gives the whole; of a union the members until here pass.
use Rattle.std.proofs.Common.{◌≡◌, drop, map, take, true}
use Rattle.vkg_plan.specs.Plan.{plans}
use Rattle.vkg_plan.specs.Seen.{plan_seen}
use Rattle.vkg_rules.specs.StepSeen.{plans_seen}
use Rattle.vkg_unique.specs.Unique.{are_unique}
use Rattle.vkg_unique.proofs.Earlier.{are_good}
use Rattle.vkg_unique.proofs.unique.+unique.Given as goal

abbrev pub invariant-are_unique-loop-p : goal.invariant-are_unique-loop-p
invariant-are_unique-loop-p l = are_unique l.schema (plans (map plan_seen l.ps)) ≡ are_unique l.schema (plans (map plan_seen (drop l.p-index l.ps)))

abbrev pub invariant-are_unique_apart-loop-p : goal.invariant-are_unique_apart-loop-p
invariant-are_unique_apart-loop-p l = record {
  count : l.earlier ≡ l.p-index;
  good : are_good l.schema (plans_seen (take l.p-index l.ps)) ≡ true;
}
