-- What is joined so far, with the members that are left, is the whole chain.
use Rattle.std.proofs.Common.{◌≡◌, drop, map}
use Rattle.vkg_expr.specs.Seen.{expr_seen}
use Rattle.vkg_unfold.specs.Parts.{all_of}
use Rattle.vkg_unfold.proofs.conditions.all_of.Given as goal

abbrev pub invariant-loop-next : goal.invariant-loop-next
invariant-loop-next l = all_of (expr_seen l.all) (map expr_seen (drop l.next-index l.more)) ≡ all_of (expr_seen l.fn.first) (map expr_seen l.more)
