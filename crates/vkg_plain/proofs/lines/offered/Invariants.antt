use Rattle.std.proofs.Common.{◌≡◌, map, take}
use Rattle.vkg_order.specs.Kept.{StandFor}
use Rattle.vkg_algebra.specs.Answer.{solution_entry}
use Rattle.vkg_plain.proofs.lines.offered.Given as goal

abbrev pub invariant-loop-row : goal.invariant-loop-row
invariant-loop-row l = record {
  asked : l.keeper.modifiers ≡ l.fn.keeper.modifiers;
  stands : StandFor l.fn.keeper.modifiers l.keeper.held (map (solution_entry l.width) (take l.row-index l.rows));
}
