-- As many marks as two lists have together, and as an And or an Or of some has nodes.
use Rattle.std.proofs.Common.{◌≡◌, ◌+◌, ◌≤◌, Bool, List, [], ◌∷◌, ◌++◌, length, length-append, map, refl, arith}
use Rattle.vkg_expr.specs.declared.expr.Expr.{Expr as ExprValue}
use Rattle.vkg_expr.specs.Expr.{And, Or, exprs}
use Rattle.vkg_expr.specs.Seen.{expr_seen}
use Rattle.vkg_rules.specs.Measure.{size, sizes}

pub marks_beside : (xs ys : List Bool) → length (xs ++ ys) ≡ length xs + length ys
marks_beside xs ys = length-append xs ys

pub and_nodes : (es : List ExprValue) → 1 ≤ length es → size (And (exprs (map expr_seen es))) ≡ 1 + sizes (exprs (map expr_seen es))
and_nodes [] h = absurd (omega (arith, h))
and_nodes (e ∷ es) h = refl

pub or_nodes : (es : List ExprValue) → 1 ≤ length es → size (Or (exprs (map expr_seen es))) ≡ 1 + sizes (exprs (map expr_seen es))
or_nodes [] h = absurd (omega (arith, h))
or_nodes (e ∷ es) h = refl
