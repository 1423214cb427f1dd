use Rattle.std.proofs.Common.{◌≡◌, length}
use Rattle.vkg_sparql.specs.Checks.{no_number}
use Rattle.vkg_sparql.proofs.checks.no_number.Given as goal

abbrev pub invariant-loop-lexeme : goal.invariant-loop-lexeme
invariant-loop-lexeme l = no_number l.rest ≡ no_number l.fn.lexemes

abbrev pub decreases-loop-lexeme : goal.decreases-loop-lexeme
decreases-loop-lexeme l = length l.rest
