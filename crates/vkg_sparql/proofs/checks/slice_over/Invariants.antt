use Rattle.std.proofs.Common.{◌≡◌, length}
use Rattle.vkg_sparql.specs.Checks.{slice_over}
use Rattle.vkg_sparql.proofs.checks.slice_over.Given as goal

abbrev pub invariant-loop-lexeme : goal.invariant-loop-lexeme
invariant-loop-lexeme l = slice_over l.rest ≡ slice_over l.fn.lexemes

abbrev pub decreases-loop-lexeme : goal.decreases-loop-lexeme
decreases-loop-lexeme l = length l.rest
