use Rattle.std.proofs.Common.{◌≡◌, ◌++◌, drop, map}
use Rattle.vkg_expr.specs.Expr.{exprs}
use Rattle.vkg_expr.specs.Seen.{expr_seen}
use Rattle.vkg_sqltext.specs.Text.{expr_texts}
use Rattle.vkg_sqltext.proofs.expr_texts.+expr_text.Given as goal

abbrev pub invariant-expr_texts-loop-e : goal.invariant-expr_texts-loop-e
invariant-expr_texts-loop-e l = expr_texts (exprs (map expr_seen l.list)) ≡ l.texts ++ expr_texts (exprs (map expr_seen (drop l.e-index l.list)))
