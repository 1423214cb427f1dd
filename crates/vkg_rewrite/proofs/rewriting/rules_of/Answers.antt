use Rattle.vkg_row_rules.proofs.SoundRules.{rules_over}
use Rattle.vkg_rewrite.proofs.rewriting.rules_of.Goals as goal

pub row_rules-requires : goal.row_rules-requires
row_rules-requires c = rw (c.as_slice.ensures, c.in_ok-rules.ensures, c.tables.ensures.value) (rules_over c.args.schema.now c.args.mapping.now c.requires)
