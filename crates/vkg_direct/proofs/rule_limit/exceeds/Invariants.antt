use Rattle.std.proofs.Common.{◌≡◌, drop}
use Rattle.std.specs.Prelude.{nat_lt, sum_by}
use Rattle.vkg_direct.specs.DirectMapping.{rules_of_table}
use Rattle.vkg_direct.proofs.rule_limit.exceeds.Given as goal

abbrev pub invariant-loop-table : goal.invariant-loop-table
invariant-loop-table l = nat_lt l.limit (sum_by rules_of_table l.tables) ≡ nat_lt l.left (sum_by rules_of_table (drop l.table-index l.tables))
