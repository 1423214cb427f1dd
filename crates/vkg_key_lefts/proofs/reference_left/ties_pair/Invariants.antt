-- What is left decides.
use Rattle.std.proofs.Common.{◌≡◌, drop}
use Rattle.vkg_expr.specs.Seen.{expr_seen}
use Rattle.vkg_key_lefts.specs.ReferenceLeft.{ties_pair}
use Rattle.vkg_key_lefts.proofs.reference_left.ties_pair.Given as goal

abbrev pub invariant-loop-pair : goal.invariant-loop-pair
invariant-loop-pair l = ties_pair l.first l.second l.pairs (expr_seen l.c) ≡ ties_pair l.first l.second (drop l.pair-index l.pairs) (expr_seen l.c)
