use Rattle.std.proofs.Common.{◌≡◌, drop, length}
use Rattle.std.specs.Cmp.Lexicographic.{pointwise}
use Rattle.vkg_expr.specs.Typing.{same_kind}
use Rattle.vkg_plan.proofs.columns.are_same_kinds.Given as goal

abbrev pub invariant-loop-i : goal.invariant-loop-i
invariant-loop-i l = (length l.a ≡ length l.b) × (pointwise same_kind l.a l.b ≡ pointwise same_kind (drop l.i l.a) (drop l.i l.b))
