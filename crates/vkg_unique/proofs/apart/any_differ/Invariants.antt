-- What is left of the two lists gives the whole.
use Rattle.std.proofs.Common.{◌≡◌, length, map}
use Rattle.vkg_expr.specs.Seen.{expr_seen}
use Rattle.vkg_unique.specs.Apart.{lists_differ}
use Rattle.vkg_unique.proofs.apart.any_differ.Given as goal

abbrev pub invariant-loop-left : goal.invariant-loop-left
invariant-loop-left l =
    lists_differ l.tables l.sure l.kinds (map expr_seen l.by) (map expr_seen l.fn.es) (map expr_seen l.fn.fs)
    ≡ lists_differ l.tables l.sure l.kinds (map expr_seen l.by) (map expr_seen l.left) (map expr_seen l.right)

abbrev pub decreases-loop-left : goal.decreases-loop-left
decreases-loop-left l = length l.left
