use Rattle.std.proofs.Common.{◌≡◌, map, take}
use Rattle.vkg_sparql.specs.Lexemes.{lexeme_of}
use Rattle.vkg_sparql.proofs.lexeme.each_of.Given as goal

abbrev pub invariant-loop-token : goal.invariant-loop-token
invariant-loop-token l = l.lexemes.items ≡ map (lexeme_of l.text l.end) (take l.token-index l.tokens)
