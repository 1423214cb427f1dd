use Rattle.std.proofs.Common.{Ok, ap, sym, subst, ◌∙◌}
use Rattle.vkg_grammar.specs.Kinds.{AreBelow}
use Rattle.vkg_tokens.specs.declared.sparql_kinds.TheConstants.{KIND_COUNT}
use Rattle.vkg_sparql.specs.declared.fault.QueryError.TheVariants.{Fault}
use Rattle.vkg_sparql.specs.Reading.{fault}
use Rattle.vkg_sparql.proofs.Failing.{no_token_named}
use Rattle.vkg_sparql.proofs.reading.read_str.Goals as goal

pub read_cut-requires-clause-cut : goal.read_cut-requires-clause-cut
read_cut-requires-clause-cut c = c.in-Ok.ensures.ok ∙ ap Ok (sym c.deref.ensures.value)

pub read_cut-requires-clause-kinds : goal.read_cut-requires-clause-kinds
read_cut-requires-clause-kinds c = subst (AreBelow KIND_COUNT) (sym c.deref.ensures.value) c.in-Ok.ensures.kinds

pub returns-in-Err-LexFault-clause-err : goal.returns-in-Err-LexFault-clause-err
returns-in-Err-LexFault-clause-err c =
    let fails = rw c.in-Err-LexFault.field-0-is at c.in-Err-LexFault.ensures in
    no_token_named c.args.text.now c.args.base.now c.utf8.text _ c.in-Err-LexFault.at (c.fault.ensures ∙ ap (λ at. Fault (fault 1 at)) c.in-Err-LexFault.at-is) fails.err
