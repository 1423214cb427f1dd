-- The first columns of the variables so far, and of one more.
use Rattle.std.proofs.Common.{◌≡◌, ◌∙◌, ℕ, ◌+◌, [], ◌∷◌, ◌++◌, Some, map, take, get_or, sym, ap}
use Rattle.std.specs.List.{position_or_len}
use Rattle.std.proofs.lemmas.List.{map-append, map_more}
use Rattle.vkg_expr.specs.Expr.{Expr, Col}
use Rattle.vkg_expr.specs.Seen.{expr_seen}
use Rattle.vkg_unfolded.specs.Unfolded.{Name, name_eq}
use Rattle.vkg_unfold.proofs.bgp.wanted.Goals as goal

pub loop-variable-preserved : goal.loop-variable-preserved
loop-variable-preserved c = more _ c.first_column.ensures
  where
    first : Name → Expr
    first x = Col (position_or_len (name_eq x) c.args.names.now)

    more : (d : ℕ) → expr_seen c.first_column.result ≡ first (Some (get_or c.args.variables.now c.loop-variable.variable-index d))
        → map expr_seen c.push.new.self ≡ map first (map Some (take (c.loop-variable.variable-index + 1) c.args.variables.now))
    more d is =
        ap (map expr_seen) c.in_ok-push.ensures.ok
        ∙ map-append expr_seen c.loop-variable.columns (c.first_column.result ∷ [])
        ∙ (λ t. c.loop-variable.invariant t ++ is t ∷ [])
        ∙ sym (ap (map first) (map_more Some c.args.variables.now c.loop-variable.variable-index d c.loop-variable-test.true) ∙ map-append first (map Some (take c.loop-variable.variable-index c.args.variables.now)) (Some (get_or c.args.variables.now c.loop-variable.variable-index d) ∷ []))
