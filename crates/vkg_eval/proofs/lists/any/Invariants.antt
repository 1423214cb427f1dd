use Rattle.std.proofs.Common.{◌≡◌, drop, map}
use Rattle.std.specs.Prelude.{fold}
use Rattle.vkg_values.specs.Logic.{or3}
use Rattle.vkg_expr.specs.Value.{any_of, truth_of}
use Rattle.vkg_eval.proofs.lists.any.Given as goal

abbrev pub invariant-loop-cell : goal.invariant-loop-cell
invariant-loop-cell l = any_of l.cells ≡ fold or3 l.any (map truth_of (drop l.cell-index l.cells))
