-- A COALESCE as it is seen, and the COALESCE of one and of several.
use Rattle.std.proofs.Common.{◌≡◌, ◌≢◌, ◌≤◌, Bool, List, [], ◌∷◌, get_or, length, map, refl, sym, ap, arith}
use Rattle.std.specs.Prelude.{Some, option_map, slice_get}
use Rattle.std.proofs.lemmas.Option.{same_Some}
use Rattle.vkg_expr.specs.declared.expr.Expr.{Expr as ExprValue}
use Rattle.vkg_expr.specs.Expr.{Coalesce, exprs}
use Rattle.vkg_expr.specs.Seen.{expr_seen}
use Rattle.vkg_expr.proofs.Conjuncts.{each_exprs}
use Rattle.vkg_conditions.proofs.ListLemmas.{seen-Coalesce}
use Rattle.vkg_sure.specs.FirstKnown.{coalesce_of, first_alone, first_value, of_first}

pub ruleset coalesce_seen = (each_exprs, seen-Coalesce)

pub coalesce_one : (terms : Bool) (es : List ExprValue) (x : ExprValue) → length es ≡ 1 → slice_get es 0 ≡ Some x → coalesce_of terms (map expr_seen es) ≡ coalesce_of terms (expr_seen x ∷ [])
coalesce_one terms [] x h k = absurd (omega (arith, h))
coalesce_one terms (e ∷ []) x h k = ap (λ y. coalesce_of terms (expr_seen y ∷ [])) (same_Some e x k)
coalesce_one terms (e ∷ f ∷ es) x h k = absurd (omega (arith, h))

pub coalesce_more : (terms : Bool) (es : List ExprValue) → length es ≢ 1 → coalesce_of terms (map expr_seen es) ≡ Coalesce (exprs (map expr_seen es))
coalesce_more terms [] h = refl
coalesce_more terms (e ∷ []) h = absurd (h refl)
coalesce_more terms (e ∷ f ∷ es) h = refl

-- ---- the first of some

pub head_alone : (flags : List Bool) (es : List ExprValue) (x : ExprValue) → 1 ≤ length es → x ≡ get_or es 0 x → first_alone flags (map expr_seen es) ≡ option_map (λ d. d ∷ []) (first_value flags (expr_seen x))
head_alone flags [] x h k = absurd (omega (arith, h))
head_alone flags (e ∷ es) x h k = ap (λ y. option_map (λ d. d ∷ []) (first_value flags (expr_seen y))) (sym k)

pub head_first : (flags : List Bool) (es : List ExprValue) (x : ExprValue) → 1 ≤ length es → x ≡ get_or es 0 x → of_first flags (exprs (map expr_seen es)) ≡ first_value flags (expr_seen x)
head_first flags [] x h k = absurd (omega (arith, h))
head_first flags (e ∷ es) x h k = ap (λ y. first_value flags (expr_seen y)) (sym k)
