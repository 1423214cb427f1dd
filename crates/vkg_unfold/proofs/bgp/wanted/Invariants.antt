use Rattle.std.proofs.Common.{◌≡◌, map, take, Some}
use Rattle.std.specs.List.{position_or_len}
use Rattle.vkg_expr.specs.Seen.{expr_seen}
use Rattle.vkg_expr.specs.Expr.{Col}
use Rattle.vkg_unfolded.specs.Unfolded.{name_eq}
use Rattle.vkg_unfold.proofs.bgp.wanted.Given as goal

abbrev pub invariant-loop-variable : goal.invariant-loop-variable
invariant-loop-variable l = map expr_seen l.columns ≡ map (λ x. Col (position_or_len (name_eq x) l.names)) (map Some (take l.variable-index l.variables))
