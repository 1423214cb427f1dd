use Rattle.std.proofs.Common.{◌≡◌, arith}
use Rattle.vkg_grammar.specs.Tables.{stays}
use Rattle.vkg_grammar.proofs.Rounds.{next_comes, next_waits}
use Rattle.vkg_grammar.proofs.follow.follow_cell.Goals as goal

pub returns-then-old-gt0 : goal.returns-then-old-gt0
returns-then-old-gt0 c = stays c.if-old-gt0.true

pub returns-then-has_place : goal.returns-then-has_place
returns-then-has_place c = let z : c.args.old ≡ 0 = omega arith in next_comes _ z c.if-has_place.true (rw c.seen_of-seen.ensures at c.has_place.ensures)

pub returns-else-has_place : goal.returns-else-has_place
returns-else-has_place c = let z : c.args.old ≡ 0 = omega arith in next_waits _ z c.if-has_place.false (rw c.seen_of-seen.ensures at c.has_place.ensures)
