use Rattle.std.proofs.Common.{◌≡◌, take}
use Rattle.vkg_turtle.specs.Words.{lexemes_of}
use Rattle.vkg_turtle.proofs.lexeme.lexemes_of.Given as goal

abbrev pub invariant-loop-token : goal.invariant-loop-token
invariant-loop-token l = l.lexemes.items ≡ lexemes_of l.text (take l.token-index l.tokens)
