-- Conditions of which no conjunct compares two terms of which one is no literal.
use Rattle.std.proofs.Common.{◌≡◌, ◌<◌, ◌≤◌, Bool, true, false, List, [], ◌∷◌, length, map, Option, Some, None, refl, ap, arith}
use Rattle.std.specs.Prelude.{is_some, option_and_then, option_map}
use Rattle.std.specs.List.{list_any}
use Rattle.std.specs.Option.{option_or}
use Rattle.vkg_lists.proofs.Bools.{neither}
use Rattle.vkg_expr.specs.declared.expr.Expr.{Expr as ExprValue}
use Rattle.vkg_expr.specs.Expr.{Expr, exprs}
use Rattle.vkg_expr.specs.Logic.{and_of, conjuncts}
use Rattle.vkg_expr.specs.Seen.{expr_seen}
use Rattle.vkg_plan.specs.Kinds.{Kinds, Tables}
use Rattle.vkg_plan.specs.Plan.{Plan}
use Rattle.vkg_conditions.specs.Conditions.{if_so}
use Rattle.vkg_conditions.specs.SimplifyCondition.{first_conjunct}
use Rattle.vkg_equalities.specs.Decided.{decided}
use Rattle.vkg_equalities.specs.TableColumns.{flag_at}
use Rattle.vkg_equalities.specs.TermEquality.{condition_columns, condition_kinds}
use Rattle.vkg_sure.specs.TermComparison.{as_same, compared, compared_in, if_smaller, node_compared, same_terms}

pub is_so : (b : Bool) (e : Expr) → is_some (if_so b e) ≡ b
is_so true e = refl
is_so false e = refl

-- only two are compared
pub few_terms : (es : List ExprValue) → length es < 2 → same_terms (exprs (map expr_seen es)) ≡ None
few_terms [] h = refl
few_terms (e ∷ []) h = refl
few_terms (e ∷ f ∷ es) h = absurd (omega (arith, h))

pub many_terms : (es : List ExprValue) → 3 ≤ length es → same_terms (exprs (map expr_seen es)) ≡ None
many_terms [] h = absurd (omega (arith, h))
many_terms (e ∷ []) h = absurd (omega (arith, h))
many_terms (e ∷ f ∷ []) h = absurd (omega (arith, h))
many_terms (e ∷ f ∷ g ∷ es) h = refl

none-there : (o : Option Expr) → is_some o ≡ false → o ≡ None
none-there None h = refl
none-there (Some e) h = cc

none-of : (f : Expr → Option Expr) (cs : List Expr) → ((c : Expr) → is_some (as_same c) ≡ false → f c ≡ None) → list_any (λ c. is_some (as_same c)) cs ≡ false → first_conjunct f cs ≡ None
none-of f [] g h = refl
none-of f (c ∷ cs) g h =
    let b = neither (is_some (as_same c)) (list_any (λ c. is_some (as_same c)) cs) h in
    λ i. option_or (option_map (λ d. d ∷ cs) (g c b.0 i)) (option_map (λ ds. c ∷ ds) (none-of f cs g b.1 i))

over-kinds : (flags : List Bool) (c : Expr) (o : Option Kinds) → list_any (λ e. is_some (as_same e)) (conjuncts c) ≡ false → option_and_then (λ ks. compared_in flags ks c) o ≡ None
unfolding compared_in
over-kinds flags c None h = refl
over-kinds flags c (Some ks) h =
    ap (option_map and_of) (none-of (compared (flag_at flags) ks) (conjuncts c)
    (λ e k. ap (λ o. option_and_then (if_smaller e) (option_and_then (decided (flag_at flags) ks) o)) (none-there (as_same e) k)) h)

pub none_compared : (s : Tables) (p : Plan) (c : Expr) → list_any (λ e. is_some (as_same e)) (conjuncts c) ≡ false → node_compared s p c ≡ None
none_compared s p c h = over-kinds (condition_columns s p) c (condition_kinds s p) h
