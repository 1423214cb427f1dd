use Rattle.std.proofs.Common.{sym, ◌∙◌}
use Rattle.vkg_grammar.proofs.Deepening.{one_more, too_deep}
use Rattle.vkg_grammar.proofs.depth.first_too_deep.Goals as goal

pub returns-then-not-allows : goal.returns-then-not-allows
returns-then-not-allows c = too_deep c.args.tokens.now _ c.loop-index.invariant c.loop-index-test.true c.deepened-depth.ensures (sym c.allows.ensures ∙ c.if-not-allows.true)

pub loop-index-preserved : goal.loop-index-preserved
loop-index-preserved c = one_more c.args.tokens.now _ c.loop-index.invariant c.loop-index-test.true c.deepened-depth.ensures (sym c.allows.ensures ∙ c.if-not-allows.false)
