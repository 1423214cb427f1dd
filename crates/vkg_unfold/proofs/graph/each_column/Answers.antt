-- The columns of the variables so far, and of one more.
use Rattle.std.proofs.Common.{◌≡◌, ◌∙◌, ℕ, ◌+◌, [], ◌∷◌, ◌++◌, nat_eq, map, take, get_or, sym, ap, arith}
use Rattle.std.specs.List.{position_or_len}
use Rattle.std.proofs.lemmas.List.{map-append, map_more}
use Rattle.vkg_expr.specs.Expr.{Expr, Col}
use Rattle.vkg_expr.specs.Seen.{expr_seen, expr_step}
use Rattle.vkg_expr.specs.declared.expr.Expr.TheFolds.{fold-roll-Expr}
use Rattle.vkg_expr.specs.declared.expr.Expr.TheOpen.{Expr-F}
use Rattle.vkg_expr.specs.declared.expr.Expr.TheVariants as value
use Rattle.vkg_expr.specs.declared.expr.Expr.TheVariants.{rolls-Col}
use Rattle.vkg_unfolded.specs.Unfolded.{column}
use Rattle.vkg_unfold.proofs.graph.each_column.Goals as goal

seen-Col : (at : ℕ) → expr_seen (value.Col at) ≡ Col at
seen-Col at = ap expr_seen (sym (rolls-Col at)) ∙ fold-roll-Expr Expr expr_step (Expr-F.Col at)

pub loop-variable-preserved : goal.loop-variable-preserved
loop-variable-preserved c = more _ c.place.ensures.value
  where
    more : (d : ℕ) → c.place.result ≡ position_or_len (nat_eq (get_or c.args.variables.now c.loop-variable.variable-index d)) c.args.variables.now
        → map expr_seen c.push.new.self ≡ map (column c.args.variables.now 0) (take (c.loop-variable.variable-index + 1) c.args.variables.now)
    more d is =
        let at : c.place.result ≡ 0 + position_or_len (nat_eq (get_or c.args.variables.now c.loop-variable.variable-index d)) c.args.variables.now = omega (arith, is) in
        ap (map expr_seen) c.in_ok-push.ensures.ok
        ∙ map-append expr_seen c.loop-variable.columns (value.Col c.place.result ∷ [])
        ∙ (λ t. c.loop-variable.invariant t ++ (seen-Col c.place.result ∙ ap Col at) t ∷ [])
        ∙ sym (map_more (column c.args.variables.now 0) c.args.variables.now c.loop-variable.variable-index d c.loop-variable-test.true)
