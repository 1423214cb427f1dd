use Rattle.std.proofs.Common.{◌≡◌, ◌++◌, drop, map}
use Rattle.vkg_plan.specs.Plan.{plans}
use Rattle.vkg_plan.specs.Seen.{plan_seen}
use Rattle.vkg_equalities.specs.TableColumns.{columns_of_each, flags_beside}
use Rattle.vkg_equalities.proofs.table_columns.+flags.Given as goal

abbrev pub invariant-columns_beside-loop-p : goal.invariant-columns_beside-loop-p
invariant-columns_beside-loop-p l =
    flags_beside (columns_of_each l.schema (plans (map plan_seen l.ps)))
    ≡ l.all ++ flags_beside (columns_of_each l.schema (plans (map plan_seen (drop l.p-index l.ps))))

abbrev pub invariant-columns_of_each-loop-p : goal.invariant-columns_of_each-loop-p
invariant-columns_of_each-loop-p l =
    columns_of_each l.schema (plans (map plan_seen l.ps))
    ≡ l.each ++ columns_of_each l.schema (plans (map plan_seen (drop l.p-index l.ps)))
