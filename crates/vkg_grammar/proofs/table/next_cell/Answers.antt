use Rattle.std.proofs.Common.{◌≡◌, arith}
use Rattle.vkg_grammar.specs.Tables.{stays}
use Rattle.vkg_grammar.proofs.Rounds.{next_comes, next_waits}
use Rattle.vkg_grammar.proofs.table.next_cell.Goals as goal

pub returns-then-old-gt0 : goal.returns-then-old-gt0
returns-then-old-gt0 c = stays c.if-old-gt0.true

pub returns-then-has_reason : goal.returns-then-has_reason
returns-then-has_reason c = let z : c.args.old ≡ 0 = omega arith in next_comes _ z c.if-has_reason.true (rw c.seen_of-seen.ensures at c.has_reason.ensures)

pub returns-else-has_reason : goal.returns-else-has_reason
returns-else-has_reason c = let z : c.args.old ≡ 0 = omega arith in next_waits _ z c.if-has_reason.false (rw c.seen_of-seen.ensures at c.has_reason.ensures)
