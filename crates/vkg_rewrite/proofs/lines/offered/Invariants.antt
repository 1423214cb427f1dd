use Rattle.std.proofs.Common.{◌≡◌, map, take}
use Rattle.vkg_order.specs.Kept.{StandFor}
use Rattle.vkg_expr.specs.Value.{term_of}
use Rattle.vkg_algebra.specs.Answer.{solution_entry}
use Rattle.vkg_rewrite.proofs.lines.offered.Given as goal

abbrev pub invariant-loop-i : goal.invariant-loop-i
invariant-loop-i l = record {
  asked : l.keeper.modifiers ≡ l.fn.keeper.modifiers;
  stands : StandFor l.fn.keeper.modifiers l.keeper.held (map (λ row. solution_entry l.width (map term_of row)) (take l.i l.rows));
}
