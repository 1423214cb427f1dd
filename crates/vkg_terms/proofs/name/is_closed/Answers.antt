use Rattle.vkg_terms.proofs.NameLemmas.{plain_step, quote_step}
use Rattle.vkg_terms.proofs.name.is_closed.Goals as goal

pub loop-first-preserved-then-first-ne34 : goal.loop-first-preserved-then-first-ne34
loop-first-preserved-then-first-ne34 c = plain_step c.loop-first.some c.loop-first.rest.now _ _ _ c.in-Some.ensures.cases.0 c.if-first-ne34.true c.loop-first.invariant

pub loop-first-preserved : goal.loop-first-preserved
loop-first-preserved c =
    quote_step c.loop-first.some c.loop-first.rest.now _ _ _ _ _ c.in-Some.ensures.cases.0 c.in-Some-split_first.ensures.cases.0 c.if-first-ne34.false c.if-second-ne34.false c.loop-first.invariant
