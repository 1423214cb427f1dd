use Rattle.std.proofs.Common.{◌≡◌, drop, map}
use Rattle.vkg_plan.specs.Plan.{plans}
use Rattle.vkg_plan.specs.Seen.{plan_seen}
use Rattle.vkg_unique.specs.Earlier.{is_apart_from_each}
use Rattle.vkg_unique.proofs.unique.is_apart_from_each.Given as goal

abbrev pub invariant-loop-q : goal.invariant-loop-q
invariant-loop-q l =
    is_apart_from_each l.schema (plans (map plan_seen l.earlier)) (plan_seen l.p)
    ≡ is_apart_from_each l.schema (plans (map plan_seen (drop l.q-index l.earlier))) (plan_seen l.p)
