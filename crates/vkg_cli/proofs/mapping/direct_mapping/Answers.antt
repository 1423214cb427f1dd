use Rattle.vkg_direct.proofs.Within.{direct_is_within}
use Rattle.vkg_cli.proofs.mapping.direct_mapping.Goals as goal

pub returns-in-Ok-clause-within : goal.returns-in-Ok-clause-within
returns-in-Ok-clause-within c = direct_is_within c.args.schema.now c.args.base.now c.in-Ok.mapping c.tables-tables.ensures.form c.in-Ok.ensures.ok
