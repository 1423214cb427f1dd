use Rattle.std.proofs.Common.{◌≡◌, arith}
use Rattle.vkg_grammar.specs.Tables.{stays}
use Rattle.vkg_grammar.proofs.Rounds.{next_comes, next_waits}
use Rattle.vkg_grammar.proofs.productive.text_cell.Goals as goal

pub returns-then-old-gt0 : goal.returns-then-old-gt0
returns-then-old-gt0 c = stays c.if-old-gt0.true

pub returns-then-has_text : goal.returns-then-has_text
returns-then-has_text c = let z : c.args.old ≡ 0 = omega arith in next_comes _ z c.if-has_text.true c.has_text.ensures

pub returns-else-has_text : goal.returns-else-has_text
returns-else-has_text c = let z : c.args.old ≡ 0 = omega arith in next_waits _ z c.if-has_text.false c.has_text.ensures
