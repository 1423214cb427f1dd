use Rattle.vkg_cli.proofs.Clauses.{write_only}
use Rattle.vkg_cli.proofs.top.vkg.Goals as goal

pub returns-clause-write_fault : goal.returns-clause-write_fault
returns-clause-write_fault g c = write_only _ _ _ _ c.run.ensures
