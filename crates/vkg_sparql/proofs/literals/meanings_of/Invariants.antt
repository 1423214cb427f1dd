use Rattle.std.proofs.Common.{◌≡◌, ◌++◌, length}
use Rattle.vkg_sparql.specs.Literals.{meanings_of}
use Rattle.vkg_sparql.proofs.literals.meanings_of.Given as goal

abbrev pub invariant-loop-lexeme : goal.invariant-loop-lexeme
invariant-loop-lexeme l = l.meanings.items ++ meanings_of l.environment l.keys l.left l.rest ≡ meanings_of l.environment l.keys l.fn.start l.fn.lexemes

abbrev pub decreases-loop-lexeme : goal.decreases-loop-lexeme
decreases-loop-lexeme l = length l.rest
