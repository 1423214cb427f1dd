use Rattle.std.proofs.Common.{arith}
use Rattle.std.proofs.lemmas.List.{length-map}
use Rattle.vkg_grammar.proofs.Answering.{start_parsed, first_dead_token, parsed_token, cut_off, the_text}
use Rattle.vkg_grammar.proofs.parsing.parse_by.Goals as goal

pub loop-index-init : goal.loop-index-init
loop-index-init c = start_parsed c.push.new.self.items c.new-stack.result.items c.new-notes.result.items c.requires.grammar c.new-stack.ensures.items c.in_ok-push.ensures.items c.new-notes.ensures.items

pub returns-then-not-branch-clause-stops : goal.returns-then-not-branch-clause-stops
returns-then-not-branch-clause-stops c = first_dead_token c.args.tokens.now c.loop-index.index _ c.requires.ll1 c.loop-index-test.true c.loop-index.invariant (rw c.if-not-branch.true at c.in_ok-advance.ensures)

pub loop-index-preserved : goal.loop-index-preserved
loop-index-preserved c = parsed_token c.args.tokens.now c.loop-index.index _ c.loop-index-test.true c.loop-index.invariant (rw c.if-not-branch.false at c.in_ok-advance.ensures)

pub returns-then-not-branch-2-clause-stops : goal.returns-then-not-branch-2-clause-stops
returns-then-not-branch-2-clause-stops c = cut_off _ c.loop-index.index c.requires.ll1 (omega (arith, c.loop-index-test.false, length-map c.args.tokens.now (λ t. t.kind))) c.loop-index.invariant (rw c.if-not-branch-2.true at c.in_ok-advance-2.ensures)

pub returns-clause-text : goal.returns-clause-text
returns-clause-text c = the_text _ c.loop-index.index (omega (arith, c.loop-index-test.false, length-map c.args.tokens.now (λ t. t.kind))) c.loop-index.invariant (rw c.if-not-branch-2.false at c.in_ok-advance-2.ensures)
