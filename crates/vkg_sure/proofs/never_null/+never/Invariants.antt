-- What is left decides.
use Rattle.std.proofs.Common.{◌≡◌, drop, map}
use Rattle.std.specs.List.{list_all}
use Rattle.vkg_equalities.specs.TableColumns.{flags_beside}
use Rattle.vkg_plan.specs.Plan.{plans}
use Rattle.vkg_plan.specs.Seen.{plan_seen}
use Rattle.vkg_sure.specs.NeverNull.{never_null, never_null_each}
use Rattle.vkg_sure.specs.ToldAt.{is_set, told_at}
use Rattle.vkg_sure.proofs.never_null.+never.Given as goal

abbrev pub invariant-beside-loop-p : goal.invariant-beside-loop-p
invariant-beside-loop-p l =
    told_at (flags_beside (never_null_each l.schema (plans (map plan_seen l.ps)))) l.column
    ≡ told_at (flags_beside (never_null_each l.schema (plans (map plan_seen (drop l.p-index l.ps))))) l.left

abbrev pub invariant-in_all-loop-p : goal.invariant-in_all-loop-p
invariant-in_all-loop-p l =
    list_all (λ fs. is_set (told_at fs l.column)) (never_null_each l.schema (plans (map plan_seen l.ps)))
    ≡ list_all (λ fs. is_set (told_at fs l.column)) (never_null_each l.schema (plans (map plan_seen (drop l.p-index l.ps))))

abbrev pub invariant-are_set-loop-column : goal.invariant-are_set-loop-column
invariant-are_set-loop-column l =
    list_all (λ k. is_set (told_at (never_null l.schema (plan_seen l.p)) k)) l.columns
    ≡ list_all (λ k. is_set (told_at (never_null l.schema (plan_seen l.p)) k)) (drop l.column-index l.columns)
