use Rattle.std.proofs.Common.{◌≡◌, ◌+◌, ◌*◌, drop, map}
use Rattle.std.specs.Prelude.{option_map}
use Rattle.vkg_plan.specs.Kinds.{are_alike, side_by_side, kinds_of_each}
use Rattle.vkg_plan.specs.Plan.{plans}
use Rattle.vkg_plan.specs.Seen.{plan_seen}
use Rattle.vkg_lists.proofs.Onto.{onto}
use Rattle.vkg_plan.proofs.kinds.+kinds.Given as goal

abbrev pub invariant-all_kinds-loop-p : goal.invariant-all_kinds-loop-p
invariant-all_kinds-loop-p l =
    option_map side_by_side (kinds_of_each l.schema (plans (map plan_seen l.ps)))
    ≡ onto l.all (option_map side_by_side (kinds_of_each l.schema (plans (map plan_seen (drop l.p-index l.ps)))))

abbrev pub invariant-are_alike-loop-p : goal.invariant-are_alike-loop-p
invariant-are_alike-loop-p l = are_alike l.kinds (kinds_of_each l.schema (plans (map plan_seen l.ps))) ≡ are_alike l.kinds (kinds_of_each l.schema (plans (map plan_seen (drop l.p-index l.ps))))

-- the rest of a list is as deep as the list may be
abbrev pub decreases-kinds_of : goal.decreases-kinds_of
decreases-kinds_of l = 4 * goal.size-kinds_of l

abbrev pub decreases-all_kinds : goal.decreases-all_kinds
decreases-all_kinds l = 4 * goal.size-all_kinds l + 1

abbrev pub decreases-join_kinds : goal.decreases-join_kinds
decreases-join_kinds l = 4 * goal.size-join_kinds l + 2

abbrev pub decreases-are_alike : goal.decreases-are_alike
decreases-are_alike l = 4 * goal.size-are_alike l + 1

abbrev pub decreases-alike_to : goal.decreases-alike_to
decreases-alike_to l = 4 * goal.size-alike_to l + 2

abbrev pub decreases-union_kinds : goal.decreases-union_kinds
decreases-union_kinds l = 4 * goal.size-union_kinds l + 3
