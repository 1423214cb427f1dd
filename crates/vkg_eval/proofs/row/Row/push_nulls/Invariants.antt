use Rattle.std.proofs.Common.{◌≡◌, ◌++◌}
use Rattle.std.specs.Prelude.{replicate}
use Rattle.vkg_cells.specs.declared.cell.Cell.TheVariants.{Null}
use Rattle.vkg_eval.proofs.row.Row.push_nulls.Given as goal

abbrev pub invariant-loop-place : goal.invariant-loop-place
invariant-loop-place l = l.self ≡ l.fn.self ++ replicate l._place Null
