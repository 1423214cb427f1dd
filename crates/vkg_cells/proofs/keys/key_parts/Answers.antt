use Rattle.vkg_cells.proofs.KeyLemmas.{exact-key}
use Rattle.vkg_cells.proofs.keys.key_parts.Goals as goal

pub returns-clause-exact : goal.returns-clause-exact
returns-clause-exact c = exact-key c.args.cell.now
