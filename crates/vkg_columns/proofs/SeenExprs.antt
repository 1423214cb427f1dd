-- Expressions that are made of parts are seen as made of their parts as they are seen.
use Rattle.std.proofs.Common.{◌≡◌, ◌∙◌, ℕ, List, map, sym, ap}
use Rattle.vkg_cells.specs.declared.cell.Cell.{Cell}
use Rattle.vkg_cells.specs.declared.cell.SqlType.{SqlType}
use Rattle.vkg_expr.specs.declared.expr.Expr.{Expr as ExprValue}
use Rattle.vkg_expr.specs.declared.expr.Expr.TheFolds.{fold-roll-Expr}
use Rattle.vkg_expr.specs.declared.expr.Expr.TheOpen.{Expr-F}
use Rattle.vkg_expr.specs.declared.expr.Expr.TheVariants as value
use Rattle.vkg_expr.specs.declared.expr.Expr.TheVariants.{rolls-Col, rolls-Const, rolls-And}
use Rattle.vkg_expr.specs.Expr.{Expr, Col, Const, And, exprs}
use Rattle.vkg_expr.specs.Seen.{expr_seen, expr_step}

pub seen-Col : (at : ℕ) → expr_seen (value.Col at) ≡ Col at
seen-Col at = ap expr_seen (sym (rolls-Col at)) ∙ fold-roll-Expr Expr expr_step (Expr-F.Col at)

pub seen-Const : (c : Cell) (k : SqlType) → expr_seen (value.Const c k) ≡ Const c k
seen-Const c k = ap expr_seen (sym (rolls-Const c k)) ∙ fold-roll-Expr Expr expr_step (Expr-F.Const c k)

pub seen-And : (es : List ExprValue) → expr_seen (value.And es) ≡ And (exprs (map expr_seen es))
seen-And es = ap expr_seen (sym (rolls-And es)) ∙ fold-roll-Expr Expr expr_step (Expr-F.And es)
