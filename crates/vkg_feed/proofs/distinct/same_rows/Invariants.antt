use Rattle.std.proofs.Common.{◌≡◌, drop, length}
use Rattle.vkg_plan.specs.Rows.{one_row}
use Rattle.vkg_feed.proofs.distinct.same_rows.Given as goal

abbrev pub invariant-loop-i : goal.invariant-loop-i
invariant-loop-i l = (length l.a ≡ length l.b) × (one_row l.a l.b ≡ one_row (drop l.i l.a) (drop l.i l.b))
