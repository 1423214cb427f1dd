use Rattle.std.proofs.Common.{◌≡◌, ◌+◌, ◌*◌, drop, map}
use Rattle.vkg_expr.specs.Expr.{exprs}
use Rattle.vkg_expr.specs.Seen.{expr_seen}
use Rattle.vkg_expr.specs.Typing.{are_all, kinds_of}
use Rattle.vkg_expr.proofs.typing.+typed.Given as goal

-- All that was passed is of the kind.
abbrev pub invariant-are_typed-loop-e : goal.invariant-are_typed-loop-e
invariant-are_typed-loop-e l = are_all l.kind (kinds_of (exprs (map expr_seen l.list)) l.kinds) ≡ are_all l.kind (kinds_of (exprs (map expr_seen (drop l.e-index l.list))) l.kinds)

-- The depth, and among calls at one depth the caller above the called: the list behind the first is no deeper than the whole.
abbrev pub decreases-typed : goal.decreases-typed
decreases-typed l = 5 * goal.size-typed l

abbrev pub decreases-is_typed : goal.decreases-is_typed
decreases-is_typed l = 5 * goal.size-is_typed l + 1

abbrev pub decreases-are_typed : goal.decreases-are_typed
decreases-are_typed l = 5 * goal.size-are_typed l + 2

abbrev pub decreases-concatenation : goal.decreases-concatenation
decreases-concatenation l = 5 * goal.size-concatenation l + 3

abbrev pub decreases-operation : goal.decreases-operation
decreases-operation l = 5 * goal.size-operation l + 3

abbrev pub decreases-common_with : goal.decreases-common_with
decreases-common_with l = 5 * goal.size-common_with l + 3

abbrev pub decreases-common_kind : goal.decreases-common_kind
decreases-common_kind l = 5 * goal.size-common_kind l + 4
