use Rattle.std.proofs.Common.{◌≡◌, length}
use Rattle.vkg_sparql.specs.Checks.{first_place}
use Rattle.vkg_sparql.proofs.checks.first_place.Given as goal

abbrev pub invariant-loop-lexeme : goal.invariant-loop-lexeme
invariant-loop-lexeme l = first_place l.check l.environment l.rest ≡ first_place l.check l.environment l.fn.lexemes

abbrev pub decreases-loop-lexeme : goal.decreases-loop-lexeme
decreases-loop-lexeme l = length l.rest
