use Rattle.std.proofs.Common.{◌≡◌, map, take}
use Rattle.std.specs.Prelude.{filter_map}
use Rattle.vkg_plan.specs.Seen.{plan_seen}
use Rattle.vkg_unfolded.specs.Unfolded.{pattern_member}
use Rattle.vkg_unfold.proofs.pattern.pattern_plan.Given as goal

abbrev pub invariant-loop-rule : goal.invariant-loop-rule
invariant-loop-rule l = map plan_seen l.members ≡ filter_map (pattern_member l.schema l.mode l.pattern) (take l.rule-index l.rules)
