use Rattle.std.proofs.Common.{◌≡◌, drop}
use Rattle.vkg_expr.specs.Seen.{expr_seen}
use Rattle.vkg_unique.specs.UnusedLeft.{ties_key}
use Rattle.vkg_unique.proofs.unused_left.ties_key.Given as goal

abbrev pub invariant-loop-key : goal.invariant-loop-key
invariant-loop-key l = ties_key l.n (expr_seen l.c) l.keys ≡ ties_key l.n (expr_seen l.c) (drop l.key-index l.keys)
