use Rattle.std.proofs.Common.{◌≡◌, take}
use Rattle.vkg_sparql.specs.Lexemes.{named_of}
use Rattle.vkg_sparql.proofs.names.named_of.Given as goal

abbrev pub invariant-loop-lexeme : goal.invariant-loop-lexeme
invariant-loop-lexeme l = l.named ≡ named_of (take l.lexeme-index l.lexemes)
