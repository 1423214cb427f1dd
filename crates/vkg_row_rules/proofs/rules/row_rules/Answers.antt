use Rattle.std.proofs.Common.{◌<◌, length, arith}
use Rattle.vkg_row_rules.specs.RowRules.{IsRuleOver}
use Rattle.vkg_row_rules.proofs.Places.{of_item}
use Rattle.vkg_row_rules.proofs.rules.row_rules.Goals as goal

pub row_rule-requires : goal.row_rule-requires
row_rule-requires c =
    let inside : c.loop-rule.rule-index < length c.args.rules.now = omega arith in
    of_item (IsRuleOver c.args.tables.now) c.args.rules.now c.loop-rule.rule-index c.rule-item.result c.requires inside c.rule-item.is
