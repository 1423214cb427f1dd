use Rattle.std.proofs.Common.{◌≡◌, drop, map}
use Rattle.std.specs.Prelude.{fold}
use Rattle.vkg_values.specs.Logic.{and3}
use Rattle.vkg_expr.specs.Value.{all_of, truth_of}
use Rattle.vkg_eval.proofs.lists.all.Given as goal

abbrev pub invariant-loop-cell : goal.invariant-loop-cell
invariant-loop-cell l = all_of l.cells ≡ fold and3 l.all (map truth_of (drop l.cell-index l.cells))
