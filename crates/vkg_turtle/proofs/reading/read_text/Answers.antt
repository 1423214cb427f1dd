use Rattle.std.proofs.Common.{sym, ◌∙◌, subst}
use Rattle.vkg_turtle.specs.Reading.{TextFails, lexical}
use Rattle.vkg_turtle.proofs.Failing.{no_document_of}
use Rattle.vkg_turtle.proofs.reading.read_text.Goals as goal

pub returns-in-Err-clause-err : goal.returns-in-Err-clause-err
returns-in-Err-clause-err c = subst (TextFails c.args.bytes.now c.args.base.now) (sym c.fault.ensures) (lexical c.in_ok-first_bad-in-Err.ensures)

pub returns-in-Some-clause-err : goal.returns-in-Some-clause-err
returns-in-Some-clause-err c = no_document_of c.in_ok-document.document c.in-Some.found c.in-Ok.ensures.cases.0 c.in-Ok.ensures.cases.1 c.in_ok-document.ensures.ok (sym c.fault_of.ensures ∙ c.in-Some.is)
