use Rattle.std.proofs.Common.{ap, refl, ◌∙◌}
use Rattle.vkg_turtle.specs.declared.reading.TurtleError.TheVariants.{Fault}
use Rattle.vkg_grammar.specs.Kinds.{start_at}
use Rattle.vkg_turtle.specs.Reading.{fault}
use Rattle.vkg_turtle.proofs.Failing.{no_token_named, too_deep_named, dead_named, ended_named}
use Rattle.vkg_turtle.proofs.parsing.read_document.Goals as goal

pub returns-in-Err-LexFault-clause-err : goal.returns-in-Err-LexFault-clause-err
returns-in-Err-LexFault-clause-err c =
    let fails = rw c.in-Err-LexFault.field-0-is at c.in-Err-LexFault.ensures in
    no_token_named c.args.text.now c.args.base.now c.utf8.text _ c.in-Err-LexFault.at (c.fault.ensures ∙ ap (λ at. Fault (fault 1 at)) c.in-Err-LexFault.at-is) fails.err

pub returns-in-Err-TooDeep-clause-err : goal.returns-in-Err-TooDeep-clause-err
returns-in-Err-TooDeep-clause-err c =
    let fails = rw c.in-Err-TooDeep.field-0-is at c.in-Err-TooDeep.ensures in
    too_deep_named c.args.text.now c.args.base.now c.utf8.text c.in-Ok.tokens.items c.deref.result.now c.deref-in-Err-TooDeep.result.now c.in-Ok.ensures.ok c.deref.ensures.value c.deref-in-Err-TooDeep.ensures.value _ c.in-Err-TooDeep.index _ c.fault-in-Err-TooDeep.ensures fails.fails (c.start_of.ensures ∙ ap (λ i. start_at c.deref-in-Err-TooDeep.result.now i) c.in-Err-TooDeep.index-is)

pub returns-in-Err-Dead-clause-err : goal.returns-in-Err-Dead-clause-err
returns-in-Err-Dead-clause-err c =
    let fails = rw c.in-Err-Dead.field-0-is at c.in-Err-Dead.ensures in
    dead_named c.args.text.now c.args.base.now c.utf8.text c.in-Ok.tokens.items c.deref.result.now c.deref-in-Err-Dead.result.now c.in-Ok.ensures.ok c.deref.ensures.value c.deref-in-Err-Dead.ensures.value _ c.in-Err-Dead.index _ c.fault-in-Err-Dead.ensures fails.fails.0 fails.fails.1 (c.start_of-in-Err-Dead.ensures ∙ ap (λ i. start_at c.deref-in-Err-Dead.result.now i) c.in-Err-Dead.index-is)

pub returns-clause-err : goal.returns-clause-err
returns-clause-err c =
    let fails = rw c.in-Err-Ended.field-0-is at c.in-Err-Ended.ensures in
    ended_named c.args.text.now c.args.base.now c.utf8.text c.in-Ok.tokens.items c.deref.result.now c.deref.result.now c.in-Ok.ensures.ok c.deref.ensures.value c.deref.ensures.value _ _ c.fault-in-Err-Ended.ensures fails.fails.0 fails.fails.1 refl
