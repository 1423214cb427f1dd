-- The conjuncts that are left, over the flags that are set, give the whole.
use Rattle.std.proofs.Common.{◌≡◌, drop, map}
use Rattle.std.specs.Prelude.{fold}
use Rattle.vkg_expr.specs.Seen.{expr_seen}
use Rattle.vkg_unique.specs.Sure.{with_conjunct}
use Rattle.vkg_unique.proofs.sure.with_conjuncts.Given as goal

abbrev pub invariant-loop-c : goal.invariant-loop-c
invariant-loop-c l = fold with_conjunct l.fn.flags (map expr_seen l.list) ≡ fold with_conjunct l.flags (map expr_seen (drop l.c-index l.list))
