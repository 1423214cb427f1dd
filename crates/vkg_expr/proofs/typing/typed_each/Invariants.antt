use Rattle.std.proofs.Common.{◌≡◌, drop, map}
use Rattle.vkg_expr.specs.Expr.{exprs}
use Rattle.vkg_expr.specs.Seen.{expr_seen}
use Rattle.vkg_expr.specs.Typing.{kinds_of}
use Rattle.vkg_lists.proofs.Onto.{onto}
use Rattle.vkg_expr.proofs.typing.typed_each.Given as goal

abbrev pub invariant-loop-e : goal.invariant-loop-e
invariant-loop-e l = kinds_of (exprs (map expr_seen l.list)) l.kinds ≡ onto l.found (kinds_of (exprs (map expr_seen (drop l.e-index l.list))) l.kinds)
