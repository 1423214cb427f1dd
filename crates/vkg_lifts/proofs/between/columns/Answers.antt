-- The next column is one further.
use Rattle.std.proofs.Common.{◌∙◌, ◌++◌, ◌∷◌, [], ap, sym, map}
use Rattle.std.proofs.lemmas.List.{map-append}
use Rattle.vkg_expr.specs.declared.expr.Expr.TheVariants as value
use Rattle.vkg_expr.specs.Seen.{expr_seen}
use Rattle.vkg_columns.specs.Columns.{columns_from}
use Rattle.vkg_columns.proofs.Lists.{next_column}
use Rattle.vkg_columns.proofs.SeenExprs.{seen-Col}
use Rattle.vkg_expr.specs.Expr.{Col}
use Rattle.vkg_lifts.proofs.between.columns.Goals as goal

pub loop-i-preserved : goal.loop-i-preserved
loop-i-preserved c =
    let n = c.args.first in
    let i = c.loop-i.i in
    let k = c.in_ok-sum.field-0 in
    ap (map expr_seen) c.in_ok-push.ensures.ok
    ∙ map-append expr_seen c.loop-i.columns (value.Col k ∷ [])
    ∙ ap (λ l. l ++ expr_seen (value.Col k) ∷ []) c.loop-i.invariant
    ∙ ap (λ e. columns_from n i ++ e ∷ []) (seen-Col k ∙ ap Col c.in_ok-sum.ensures)
    ∙ sym (next_column n i)
