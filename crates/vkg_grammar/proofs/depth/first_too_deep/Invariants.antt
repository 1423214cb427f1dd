use Rattle.vkg_grammar.specs.Kinds.{kinds_of}
use Rattle.vkg_grammar.proofs.Deepening.{AllowedUpTo}
use Rattle.vkg_grammar.proofs.depth.first_too_deep.Given as goal

abbrev pub invariant-loop-index : goal.invariant-loop-index
invariant-loop-index l = AllowedUpTo l.grammar (kinds_of l.tokens) l.index l.depth
