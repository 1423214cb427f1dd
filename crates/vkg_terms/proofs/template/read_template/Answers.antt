use Rattle.std.proofs.Common.{rules}
use Rattle.vkg_terms.proofs.TemplateLaws.{read_is, read_bad, read_only}
use Rattle.vkg_terms.proofs.template.read_template.Goals as goal

pub returns-in-Ok-None-clause-bad : goal.returns-in-Ok-None-clause-bad
returns-in-Ok-None-clause-bad c = search rules

pub returns-in-Ok-None-clause-no_template : goal.returns-in-Ok-None-clause-no_template
returns-in-Ok-None-clause-no_template c = λ e. read_bad c.args.text.now (returns-in-Ok-None-clause-bad c e)

pub returns-then-is_all_named-clause-value : goal.returns-then-is_all_named-clause-value
returns-then-is_all_named-clause-value c = search rules

pub returns-then-is_all_named-clause-written : goal.returns-then-is_all_named-clause-written
returns-then-is_all_named-clause-written c = read_is c.args.text.now _ (returns-then-is_all_named-clause-value c)

pub returns-then-is_all_named-clause-only : goal.returns-then-is_all_named-clause-only
returns-then-is_all_named-clause-only c = read_only c.args.text.now _ (returns-then-is_all_named-clause-value c)

pub returns-else-is_all_named-clause-bad : goal.returns-else-is_all_named-clause-bad
returns-else-is_all_named-clause-bad c = search rules

pub returns-else-is_all_named-clause-no_template :
    goal.returns-else-is_all_named-clause-no_template
returns-else-is_all_named-clause-no_template c = λ e. read_bad c.args.text.now (returns-else-is_all_named-clause-bad c e)
