use Rattle.std.proofs.Common.{arith, below_more, refl}
use Rattle.std.proofs.lemmas.Bool.{both_ways}
use Rattle.vkg_grammar.specs.Rank.{rank_in}
use Rattle.vkg_grammar.specs.Tables.{StartsBy}
use Rattle.vkg_grammar.proofs.check.kinds_apart.Goals as goal

pub both_start-requires-clause-rows : goal.both_start-requires-clause-rows
both_start-requires-clause-rows c = c.requires.rows c.loop-kind.kind (omega arith)

pub both_start-requires-clause-second_rows : goal.both_start-requires-clause-second_rows
both_start-requires-clause-second_rows c = c.requires.second_rows c.loop-kind.kind (omega arith)

pub both_start-requires-clause-row : goal.both_start-requires-clause-row
both_start-requires-clause-row c = c.requires.row c.loop-kind.kind (omega arith)

pub loop-kind-preserved : goal.loop-kind-preserved
loop-kind-preserved c = below_more (λ k. StartsBy (rank_in c.args.table.now c.args.width) c.args.follow.now c.args.width c.args.symbol k c.args.first.now → StartsBy (rank_in c.args.table.now c.args.width) c.args.follow.now c.args.width c.args.symbol k c.args.second.now → ⊥) c.loop-kind.kind c.loop-kind.invariant (λ p q. both_ways _ c.if-both_start.false (c.both_start.ensures.1 (p, q)))

pub returns : goal.returns
returns c = ((λ t k h. c.loop-kind.invariant k (omega arith)), λ p. refl)
