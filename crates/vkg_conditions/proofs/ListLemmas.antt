-- Lists of expressions as the program has them and as they are seen.
use Rattle.std.proofs.Common.{◌≡◌, ◌≢◌, ◌∙◌, ℕ, ◌+◌, ◌<◌, ◌≤◌, List, [], ◌∷◌, ◌++◌, length, map, take, drop, get_or, refl, sym, ap, arith, add-one, drop-cons}
use Rattle.std.specs.Prelude.{Some, option_map, slice_get}
use Rattle.std.proofs.lemmas.List.{map-append, take_more}
use Rattle.std.proofs.lemmas.Option.{same_Some}
use Rattle.vkg_expr.specs.declared.expr.Expr.{Expr as ExprValue}
use Rattle.vkg_expr.specs.Expr.{Expr, Coalesce, Concat, Sparql, exprs}
use Rattle.vkg_expr.specs.Seen.{expr_seen, expr_step}
use Rattle.vkg_expr.proofs.Conjuncts.{each_exprs}
use Rattle.vkg_expr.proofs.TypedParts.{seen-And, seen-Or}
use Rattle.vkg_expr.specs.declared.expr.Operator.{Operator}
use Rattle.vkg_expr.specs.declared.expr.Expr.TheFolds.{fold-roll-Expr}
use Rattle.vkg_expr.specs.declared.expr.Expr.TheOpen.{Expr-F}
use Rattle.vkg_expr.specs.declared.expr.Expr.TheVariants as value
use Rattle.vkg_expr.specs.declared.expr.Expr.TheVariants.{rolls-Coalesce, rolls-Concat, rolls-Sparql}
use Rattle.vkg_conditions.specs.declared.junctions.Junction.{Junction}
use Rattle.vkg_conditions.specs.declared.junctions.Junction.TheVariants as junction
use Rattle.vkg_conditions.specs.Cases.{is_junction, junction_of, junction_with}
use Rattle.vkg_conditions.specs.Conditions.{flattened, spread}

-- ---- an expression that is made of parts is seen as made of its parts as they are seen

pub seen-Concat : (es : List ExprValue) → expr_seen (value.Concat es) ≡ Concat (exprs (map expr_seen es))
seen-Concat es = ap expr_seen (sym (rolls-Concat es)) ∙ fold-roll-Expr Expr expr_step (Expr-F.Concat es)

pub seen-Coalesce : (es : List ExprValue) → expr_seen (value.Coalesce es) ≡ Coalesce (exprs (map expr_seen es))
seen-Coalesce es = ap expr_seen (sym (rolls-Coalesce es)) ∙ fold-roll-Expr Expr expr_step (Expr-F.Coalesce es)

pub seen-Sparql : (op : Operator) (es : List ExprValue) → expr_seen (value.Sparql op es) ≡ Sparql op (exprs (map expr_seen es))
seen-Sparql op es = ap expr_seen (sym (rolls-Sparql op es)) ∙ fold-roll-Expr Expr expr_step (Expr-F.Sparql op es)

pub ruleset junctions_seen = (each_exprs, seen-And, seen-Or)

pub ruleset lists_seen = (seen-Concat, seen-And, seen-Or, seen-Coalesce, seen-Sparql)

pub drop_here : (list : List ExprValue) (i : ℕ) (e : ExprValue) → i < length list → e ≡ get_or list i e → drop i list ≡ e ∷ drop (i + 1) list
drop_here list i e below is = drop-cons list i e below ∙ ap (λ n. get_or list i e ∷ drop n list) (sym (add-one i)) ∙ ap (λ q. q ∷ drop (i + 1) list) (sym is)

pub seen_more : (list : List ExprValue) (i : ℕ) (e : ExprValue) → i < length list → e ≡ get_or list i e → map expr_seen (take (i + 1) list) ≡ map expr_seen (take i list) ++ expr_seen e ∷ []
seen_more list i e below is =
    ap (map expr_seen) (take_more list i e below) ∙ map-append expr_seen (take i list) (get_or list i e ∷ []) ∙ ap (λ q. map expr_seen (take i list) ++ expr_seen q ∷ []) (sym is)

-- ---- And and Or alike

pub joined_none : (sort : Junction) (es : List ExprValue) → length es ≡ 0 → junction_of sort (map expr_seen es) ≡ junction_of sort []
joined_none sort [] h = refl
joined_none sort (e ∷ es) h = absurd (omega (arith, h))

pub one_of : (sort : Junction) (e : Expr) → junction_of sort (e ∷ []) ≡ e
one_of junction.All e = refl
one_of junction.Any e = refl

pub joined_one : (sort : Junction) (es : List ExprValue) (x : ExprValue) → length es ≡ 1 → slice_get es 0 ≡ Some x → junction_of sort (map expr_seen es) ≡ expr_seen x
joined_one sort [] x h k = absurd (omega (arith, h))
joined_one sort (e ∷ []) x h k = one_of sort (expr_seen e) ∙ ap expr_seen (same_Some e x k)
joined_one sort (e ∷ f ∷ es) x h k = absurd (omega (arith, h))

pub joined_more : (sort : Junction) (es : List ExprValue) → length es ≢ 0 → length es ≢ 1 → junction_of sort (map expr_seen es) ≡ junction_with sort (exprs (map expr_seen es))
joined_more sort [] h k = absurd (h refl)
joined_more sort (e ∷ []) h k = absurd (k refl)
joined_more junction.All (e ∷ f ∷ es) h k = refl
joined_more junction.Any (e ∷ f ∷ es) h k = refl

pub flat_many : (sort : Junction) (es : List ExprValue) → 2 ≤ length es →
    option_map (junction_of sort) (spread (is_junction sort) (map expr_seen es)) ≡ flattened (junction_of sort) (is_junction sort) (map expr_seen es)
flat_many sort [] h = absurd (omega arith)
flat_many sort (e ∷ []) h = absurd (omega arith)
flat_many sort (e ∷ f ∷ es) h = refl
