use Rattle.std.proofs.Common.{◌≡◌, map}
use Rattle.vkg_engine.proofs.rows.Rows.from_items.Given as goal

abbrev pub invariant-loop-row : goal.invariant-loop-row
invariant-loop-row l = map (λ row. row.items) l.rows.items ≡ l.yielded
