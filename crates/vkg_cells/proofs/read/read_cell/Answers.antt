use Rattle.vkg_cells.proofs.LawLemmas.{backs, numbers, values}
use Rattle.vkg_cells.proofs.read.read_cell.Goals as goal

pub returns-clause-back : goal.returns-clause-back
returns-clause-back c = backs c.args.kind c.args.text.now c.read_field.result c.read_field.ensures.ok

pub returns-clause-number : goal.returns-clause-number
returns-clause-number c = numbers c.args.kind c.args.text.now c.read_field.result c.read_field.ensures.ok

pub returns-clause-value : goal.returns-clause-value
returns-clause-value c = values c.args.kind c.args.text.now c.read_field.result c.read_field.ensures.ok
