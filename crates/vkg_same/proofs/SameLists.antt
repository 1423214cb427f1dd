-- Lists of expressions that are one, place by place.
use Rattle.std.proofs.Common.{◌≡◌, ◌≢◌, ◌∙◌, ℕ, suc, Bool, true, false, ◌&&◌, List, [], ◌∷◌, length, map, drop, refl, ap}
use Rattle.vkg_expr.specs.declared.expr.Expr.{Expr as ExprValue}
use Rattle.vkg_expr.specs.Expr.{exprs}
use Rattle.vkg_expr.specs.Seen.{expr_seen}
use Rattle.vkg_same.specs.SameExpr.{same_expr, same_exprs}

abbrev pub lists_same : List ExprValue → List ExprValue → Bool
lists_same a b = same_exprs (exprs (map expr_seen a)) (exprs (map expr_seen b))

-- those from i on are as the whole lists are
abbrev pub SameFrom : List ExprValue → List ExprValue → ℕ → Type 0
SameFrom a b i = (length a ≡ length b) × (lists_same a b ≡ lists_same (drop i a) (drop i b))

pub not_as_long : (a b : List ExprValue) → length a ≢ length b → lists_same a b ≡ false
not_as_long [] [] h = absurd (h refl)
not_as_long [] (y ∷ ys) h = refl
not_as_long (x ∷ xs) [] h = refl
not_as_long (x ∷ xs) (y ∷ ys) h = ap (λ b. same_expr (expr_seen x) (expr_seen y) && b) (not_as_long xs ys (λ e. h (ap suc e))) ∙ and_false (same_expr (expr_seen x) (expr_seen y))
  where
    and_false : (b : Bool) → (b && false) ≡ false
    and_false true = refl
    and_false false = refl
