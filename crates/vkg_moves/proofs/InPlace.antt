-- The expression at i and those behind it, as columns in their places.
use Rattle.std.proofs.Common.{◌≡◌, ◌∙◌, ℕ, ◌+◌, ◌<◌, ◌&&◌, List, map, drop, length, get_or, sym, ap, drop-cons, add-one}
use Rattle.vkg_expr.specs.declared.expr.Expr.{Expr as ExprValue}
use Rattle.vkg_expr.specs.Seen.{expr_seen}
use Rattle.vkg_moves.specs.MergeProjects.{are_columns_from, is_column_at}

pub columns_here : (es : List ExprValue) (i : ℕ) (e : ExprValue) → i < length es → e ≡ get_or es i e →
    are_columns_from i (map expr_seen (drop i es)) ≡ (is_column_at i (expr_seen e) && are_columns_from (i + 1) (map expr_seen (drop (i + 1) es)))
columns_here es i e below is =
    ap (λ l. are_columns_from i (map expr_seen l)) (drop-cons es i e below)
    ∙ ap (λ n. is_column_at i (expr_seen (get_or es i e)) && are_columns_from n (map expr_seen (drop n es))) (sym (add-one i))
    ∙ ap (λ x. is_column_at i (expr_seen x) && are_columns_from (i + 1) (map expr_seen (drop (i + 1) es))) (sym is)
