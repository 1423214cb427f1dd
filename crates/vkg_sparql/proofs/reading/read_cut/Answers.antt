use Rattle.std.proofs.Common.{ap, refl, ◌∙◌}
use Rattle.vkg_sparql.specs.declared.fault.QueryError.TheVariants.{Fault}
use Rattle.vkg_grammar.specs.Kinds.{start_at}
use Rattle.vkg_sparql.specs.Reading.{fault, kind_at, dead_check}
use Rattle.vkg_sparql.proofs.Failing.{too_deep_named, dead_named, ended_named}
use Rattle.vkg_sparql.proofs.reading.read_cut.Goals as goal

pub returns-in-Err-TooDeep-clause-err : goal.returns-in-Err-TooDeep-clause-err
returns-in-Err-TooDeep-clause-err c =
    let fails = rw c.in-Err-TooDeep.field-0-is at c.in-Err-TooDeep.ensures in
    too_deep_named c.args.text.now c.args.base.now c.utf8.text c.args.tokens.now c.requires.cut _ c.in-Err-TooDeep.index _ c.fault.ensures fails.fails (c.start_of.ensures ∙ ap (λ i. start_at c.args.tokens.now i) c.in-Err-TooDeep.index-is)

pub returns-in-Err-Dead-clause-err : goal.returns-in-Err-Dead-clause-err
returns-in-Err-Dead-clause-err c =
    let fails = rw c.in-Err-Dead.field-0-is at c.in-Err-Dead.ensures in
    dead_named c.args.text.now c.args.base.now c.utf8.text c.args.tokens.now c.requires.cut _ c.in-Err-Dead.index (c.dead.ensures ∙ ap (λ i. Fault (fault (dead_check (kind_at c.args.tokens.now i)) (start_at c.args.tokens.now i))) c.in-Err-Dead.index-is) fails.fails.0 fails.fails.1

pub returns-in-Err-Ended-clause-err : goal.returns-in-Err-Ended-clause-err
returns-in-Err-Ended-clause-err c =
    let fails = rw c.in-Err-Ended.field-0-is at c.in-Err-Ended.ensures in
    ended_named c.args.text.now c.args.base.now c.utf8.text c.args.tokens.now c.requires.cut _ _ c.fault-in-Err-Ended.ensures fails.fails.0 fails.fails.1 refl
