-- The node over each that was passed.
use Rattle.std.proofs.Common.{◌≡◌, map, take}
use Rattle.vkg_plan.specs.Seen.{plan_seen}
use Rattle.vkg_spreads.specs.DistributeUnion.{over}
use Rattle.vkg_spreads.proofs.distribute_union.over_each.Given as goal

abbrev pub invariant-loop-u : goal.invariant-loop-u
invariant-loop-u l = map plan_seen l.all ≡ map (λ u. over (plan_seen l.node) (plan_seen u)) (take l.u-index l.us)
