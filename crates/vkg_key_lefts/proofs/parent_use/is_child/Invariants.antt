-- What is left decides.
use Rattle.std.proofs.Common.{◌≡◌, drop}
use Rattle.vkg_key_lefts.specs.ParentLeft.{is_child}
use Rattle.vkg_key_lefts.proofs.parent_use.is_child.Given as goal

abbrev pub invariant-loop-pair : goal.invariant-loop-pair
invariant-loop-pair l = is_child l.first l.pairs l.column ≡ is_child l.first (drop l.pair-index l.pairs) l.column
