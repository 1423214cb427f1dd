-- Lists of which one has ended have no pair left.
use Rattle.std.proofs.Common.{◌≡◌, Bool, false, List, [], ◌∷◌, length, map, refl, arith}
use Rattle.vkg_expr.specs.declared.expr.Expr.{Expr as ExprValue}
use Rattle.vkg_expr.specs.Expr.{Expr}
use Rattle.vkg_expr.specs.Seen.{expr_seen}
use Rattle.vkg_unique.specs.Apart.{any_pair}

pub no_left : (test : Expr → Expr → Bool) (es fs : List ExprValue) → length es ≡ 0 → any_pair test (map expr_seen es) (map expr_seen fs) ≡ false
no_left test [] fs h = refl
no_left test (e ∷ es) fs h = absurd (omega (arith, h))

pub no_right : (test : Expr → Expr → Bool) (es fs : List ExprValue) → length fs ≡ 0 → any_pair test (map expr_seen es) (map expr_seen fs) ≡ false
no_right test [] fs h = refl
no_right test (e ∷ es) [] h = refl
no_right test (e ∷ es) (f ∷ fs) h = absurd (omega (arith, h))
