use Rattle.std.proofs.lemmas.Bool.{both_ways}
use Rattle.vkg_grammar.proofs.check.are_apart.Goals as goal

pub returns-then-not-begins : goal.returns-then-not-begins
returns-then-not-begins c = ((λ t. ((λ p q. both_ways _ c.if-not-begins.true (c.begins.ensures.1 p)), c.kinds_apart.ensures.0 t)), λ a. c.kinds_apart.ensures.1 a.1)

pub returns : goal.returns
returns c = ((λ t. ((λ p q. both_ways _ c.if-begins.false (c.begins-2.ensures.1 q)), c.kinds_apart-2.ensures.0 t)), λ a. c.kinds_apart-2.ensures.1 a.1)
