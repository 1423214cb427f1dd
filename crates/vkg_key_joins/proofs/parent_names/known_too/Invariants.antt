-- What is left of the pairs gives the whole of the condition that there is.
use Rattle.std.proofs.Common.{◌≡◌, drop, map}
use Rattle.vkg_expr.specs.Seen.{expr_seen}
use Rattle.vkg_key_joins.specs.ParentJoin.{known_too}
use Rattle.vkg_key_joins.proofs.parent_names.known_too.Given as goal

abbrev pub invariant-loop-pair : goal.invariant-loop-pair
invariant-loop-pair l = known_too (map expr_seen l.child) (expr_seen l.fn.c) l.pairs ≡ known_too (map expr_seen l.child) (expr_seen l.all) (drop l.pair-index l.pairs)
