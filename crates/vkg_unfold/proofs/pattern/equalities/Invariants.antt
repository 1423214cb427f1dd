use Rattle.std.proofs.Common.{◌≡◌, ◌+◌, length, map, take}
use Rattle.vkg_expr.specs.Expr.{Col, Same}
use Rattle.vkg_expr.specs.Seen.{expr_seen}
use Rattle.vkg_unfold.proofs.pattern.equalities.Given as goal
use Rattle.vkg_maps.specs.Within.{kinds_at}

abbrev pub invariant-loop-column : goal.invariant-loop-column
invariant-loop-column l = map expr_seen l.agreeing ≡ map (λ c. Same (Col c.0) (Col (c.1 + length (kinds_at l.schema l.child)))) (take l.column-index l.conditions)
