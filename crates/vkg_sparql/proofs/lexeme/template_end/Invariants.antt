use Rattle.std.proofs.Common.{◌≡◌, length}
use Rattle.vkg_sparql.specs.Lexemes.{template_end}
use Rattle.vkg_sparql.proofs.lexeme.template_end.Given as goal

abbrev pub invariant-loop-token : goal.invariant-loop-token
invariant-loop-token l = template_end l.rest ≡ template_end l.fn.tokens

abbrev pub decreases-loop-token : goal.decreases-loop-token
decreases-loop-token l = length l.rest
