use Rattle.std.proofs.Common.{◌≡◌, map, take}
use Rattle.vkg_plan.specs.Seen.{plan_seen}
use Rattle.vkg_unfolded.specs.Unfolded.{pattern_plan}
use Rattle.vkg_unfold.proofs.bgp.pattern_plans.Given as goal

abbrev pub invariant-loop-pattern : goal.invariant-loop-pattern
invariant-loop-pattern l = map plan_seen l.members ≡ map (pattern_plan l.schema l.rules l.mode) (take l.pattern-index l.patterns)
