use Rattle.std.proofs.Common.{◌≡◌, drop, string_bytes}
use Rattle.vkg_expr.specs.Value.{concat_of}
use Rattle.vkg_lists.proofs.Onto.{onto}
use Rattle.vkg_eval.proofs.lists.concatenation.Given as goal

abbrev pub invariant-loop-cell : goal.invariant-loop-cell
invariant-loop-cell l = concat_of l.cells ≡ onto (string_bytes l.out) (concat_of (drop l.cell-index l.cells))
