-- What is left decides.
use Rattle.std.proofs.Common.{◌≡◌, drop}
use Rattle.std.specs.List.{list_all}
use Rattle.vkg_key_lefts.specs.ParentLeft.{is_child}
use Rattle.vkg_key_lefts.proofs.parent_use.are_children.Given as goal

abbrev pub invariant-loop-column : goal.invariant-loop-column
invariant-loop-column l = list_all (is_child l.first l.pairs) l.columns ≡ list_all (is_child l.first l.pairs) (drop l.column-index l.columns)
