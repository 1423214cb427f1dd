-- What is left decides.
use Rattle.std.proofs.Common.{◌≡◌, drop, map}
use Rattle.vkg_equalities.specs.TableColumns.{flags_beside}
use Rattle.vkg_plan.specs.Plan.{plans}
use Rattle.vkg_plan.specs.Seen.{plan_seen}
use Rattle.vkg_sure.specs.NeverNull.{never_null_each}
use Rattle.vkg_sure.specs.ToldAt.{told_at, unsaid}
use Rattle.vkg_sure.proofs.placed.+placed.Given as goal

abbrev pub invariant-beside-loop-p : goal.invariant-beside-loop-p
invariant-beside-loop-p l =
    unsaid (told_at (flags_beside (never_null_each l.schema (plans (map plan_seen l.ps)))) l.column)
    ≡ unsaid (told_at (flags_beside (never_null_each l.schema (plans (map plan_seen (drop l.p-index l.ps))))) l.left)
