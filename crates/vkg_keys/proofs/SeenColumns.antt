-- Columns in lists as the program has them and as they are seen.
use Rattle.std.proofs.Common.{◌≡◌, ◌∙◌, ℕ, ◌+◌, List, [], ◌∷◌, ◌++◌, map, sym, ap}
use Rattle.std.proofs.lemmas.List.{map-append}
use Rattle.vkg_columns.proofs.Lists.{next_column}
use Rattle.vkg_columns.proofs.SeenExprs.{seen-Col}
use Rattle.vkg_columns.specs.Columns.{columns_from}
use Rattle.vkg_expr.specs.declared.expr.Expr.{Expr as ExprValue}
use Rattle.vkg_expr.specs.declared.expr.Expr.TheVariants as value
use Rattle.vkg_expr.specs.Seen.{expr_seen}

-- a column more, where so many stand behind n others
pub one_more : (n i : ℕ) (old : List ExprValue) {all : List ExprValue} → all ≡ old ++ value.Col (n + i) ∷ [] → map expr_seen old ≡ columns_from n i → map expr_seen all ≡ columns_from n (i + 1)
one_more n i old new h =
    ap (map expr_seen) new
    ∙ map-append expr_seen old (value.Col (n + i) ∷ [])
    ∙ ap (λ l. l ++ expr_seen (value.Col (n + i)) ∷ []) h
    ∙ ap (λ e. columns_from n i ++ e ∷ []) (seen-Col (n + i))
    ∙ sym (next_column n i)
