use Rattle.std.proofs.Common.{◌≡◌, length}
use Rattle.vkg_sparql.specs.Lexemes.{first_close}
use Rattle.vkg_sparql.proofs.lexeme.first_close.Given as goal

abbrev pub invariant-loop-token : goal.invariant-loop-token
invariant-loop-token l = first_close l.rest ≡ first_close l.fn.tokens

abbrev pub decreases-loop-token : goal.decreases-loop-token
decreases-loop-token l = length l.rest
