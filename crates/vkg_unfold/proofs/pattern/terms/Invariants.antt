use Rattle.std.proofs.Common.{◌≡◌, replicate}
use Rattle.vkg_cells.specs.declared.cell.SqlType.TheVariants.{Term}
use Rattle.vkg_unfold.proofs.pattern.terms.Given as goal

abbrev pub invariant-loop-column : goal.invariant-loop-column
invariant-loop-column l = l.kinds ≡ replicate l._column Term
