use Rattle.std.proofs.Common.{◌≡◌, [], fold, take, None}
use Rattle.vkg_sparql.specs.Checks.{block_step}
use Rattle.vkg_sparql.proofs.blocks.label_again.Given as goal

abbrev pub invariant-loop-lexeme : goal.invariant-loop-lexeme
invariant-loop-lexeme l = l.blocks ≡ fold block_step (record { labels = []; braces = []; brace = 0; again = None }) (take l.lexeme-index l.lexemes)
