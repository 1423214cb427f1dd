use Rattle.std.proofs.Common.{◌≡◌, take, map}
use Rattle.vkg_row_rules.specs.RowRules.{row_rule}
use Rattle.vkg_row_rules.proofs.rules.row_rules.Given as goal

abbrev pub invariant-loop-rule : goal.invariant-loop-rule
invariant-loop-rule l = l.out ≡ map (row_rule l.base l.tables) (take l.rule-index l.rules)
