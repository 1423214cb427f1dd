-- The names until here.
use Rattle.std.proofs.Common.{◌≡◌, map}
use Rattle.vkg_expr.specs.Seen.{expr_seen}
use Rattle.vkg_key_joins.specs.ParentJoin.{all_tied_to}
use Rattle.vkg_key_joins.proofs.parent_names.all_tied_to.Given as goal

abbrev pub invariant-loop-y : goal.invariant-loop-y
invariant-loop-y l = map expr_seen l.all ≡ all_tied_to (map expr_seen l.child) l.pairs 0 l.y
