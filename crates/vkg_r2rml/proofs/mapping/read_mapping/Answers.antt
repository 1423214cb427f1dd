use Rattle.std.proofs.Common.{rules}
use Rattle.vkg_r2rml.proofs.FirstFault.{errors, values}
use Rattle.vkg_r2rml.proofs.mapping.read_mapping.Goals as goal

pub returns-clause-ok : goal.returns-clause-ok
returns-clause-ok c = search rules

pub returns-clause-err : goal.returns-clause-err
returns-clause-err c = search rules

pub returns-clause-faultless : goal.returns-clause-faultless
returns-clause-faultless c = values c.args.triples.now c.args.schema.now c.args.base.now _ (returns-clause-ok c)

pub returns-clause-least : goal.returns-clause-least
returns-clause-least c = errors c.args.triples.now c.args.schema.now c.args.base.now _ (returns-clause-err c)
