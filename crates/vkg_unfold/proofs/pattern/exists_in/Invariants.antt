use Rattle.std.proofs.Common.{◌≡◌, map, take}
use Rattle.std.specs.Prelude.{filter_map}
use Rattle.vkg_plan.specs.Seen.{plan_seen}
use Rattle.vkg_unfolded.specs.Unfolded.{exists_member}
use Rattle.vkg_unfold.proofs.pattern.exists_in.Given as goal

abbrev pub invariant-loop-rule : goal.invariant-loop-rule
invariant-loop-rule l = map plan_seen l.members ≡ filter_map (exists_member l.schema l.in_graph) (take l.rule-index l.rules)
