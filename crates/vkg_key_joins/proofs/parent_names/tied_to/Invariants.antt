-- No pair until here is of the column.
use Rattle.std.proofs.Common.{◌≡◌, drop, map}
use Rattle.vkg_expr.specs.Seen.{expr_seen}
use Rattle.vkg_key_joins.specs.ParentJoin.{tied_to}
use Rattle.vkg_key_joins.proofs.parent_names.tied_to.Given as goal

abbrev pub invariant-loop-pair : goal.invariant-loop-pair
invariant-loop-pair l = tied_to (map expr_seen l.child) l.pairs l.y ≡ tied_to (map expr_seen l.child) (drop l.pair-index l.pairs) l.y
