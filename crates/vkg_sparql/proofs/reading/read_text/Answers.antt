use Rattle.std.proofs.Common.{sym, subst}
use Rattle.vkg_sparql.specs.Reading.{TextFails, lexical}
use Rattle.vkg_sparql.proofs.reading.read_text.Goals as goal

pub returns-in_ok-first_bad-in-Err-clause-err : goal.returns-in_ok-first_bad-in-Err-clause-err
returns-in_ok-first_bad-in-Err-clause-err c = subst (TextFails c.args.bytes.now c.args.base.now) (sym c.fault.ensures) (lexical c.in_ok-first_bad-in-Err.ensures)
