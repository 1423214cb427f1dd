use Rattle.vkg_sparql.proofs.Accepted.{accepted_is_lawful}
use Rattle.vkg_sparql.proofs.reading.read_query.Goals as goal

pub returns-clause-lawful : goal.returns-clause-lawful
returns-clause-lawful c = accepted_is_lawful _ c.args.base.now _ c.read_text.ensures.ok
