use Rattle.vkg_r2rml.proofs.Within.{read_is_within}
use Rattle.vkg_cli.proofs.mapping.mapping_of.Goals as goal

pub returns-in-Ok-clause-within : goal.returns-in-Ok-clause-within
returns-in-Ok-clause-within c = read_is_within c.args.triples.now c.args.schema.now c.args.base.now c.in-Ok.mapping c.in-Ok.ensures.ok
