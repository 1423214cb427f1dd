use Rattle.vkg_cells.proofs.LawLemmas.{own-form}
use Rattle.vkg_cells.proofs.compare.lex.Goals as goal

pub returns-in_err-from_str-in-Some-clause-own : goal.returns-in_err-from_str-in-Some-clause-own
returns-in_err-from_str-in-Some-clause-own c = own-form c.args.cell.now

pub returns-in_ok-from_str-in-Some-clause-own : goal.returns-in_ok-from_str-in-Some-clause-own
returns-in_ok-from_str-in-Some-clause-own c = own-form c.args.cell.now
