-- A Project's expressions over the columns below it.
use Rattle.std.proofs.Common.{◌≡◌, ◌∙◌, ℕ, ◌-◌, ◌<◌, List, [], ◌∷◌, arith, drop, length, map, refl, ap, take}
use Rattle.std.proofs.lemmas.List.{length-drop, take_all}
use Rattle.std.specs.Prelude.{◌&&◌}
use Rattle.std.specs.List.{list_all}
use Rattle.vkg_lists.proofs.Results.{some_of}
use Rattle.vkg_expr.specs.declared.expr.Expr.{Expr as ExprValue}
use Rattle.vkg_expr.specs.Expr.{Expr, exprs}
use Rattle.vkg_expr.specs.Seen.{expr_seen}
use Rattle.vkg_expr.specs.Strict.{moved, nulls_on_null, put}
use Rattle.vkg_columns.proofs.MovedColumns.{moved-put}
use Rattle.vkg_columns.specs.Columns.{OnEach, at_place, columns_from}
use Rattle.vkg_plan.specs.declared.plan.Plan.{Plan as PlanValue}
use Rattle.vkg_plan.specs.Kinds.{Tables, plan_kinds, width}
use Rattle.vkg_plan.specs.Plan.{Plan, Project}
use Rattle.vkg_rules.specs.Steps.{IsTyped}
use Rattle.vkg_lifts.specs.InBetween.{AreWithin}
use Rattle.vkg_lifts.specs.LiftedKinds.{project-kinds}

-- over the columns of the plan below it
pub own-within : (s : Tables) (es : List Expr) (p : Plan) → IsTyped s (Project es p) → AreWithin (width s p) es
own-within s es p t =
    let a = some_of (plan_kinds s (Project es p)) t in
    (project-kinds s es p a.0 a.1).within

-- columns put in are columns moved
each-put : (n w : ℕ) (es : List Expr) → OnEach (λ at. at < w) (exprs es) → map (put (at_place (columns_from n w))) es ≡ map (moved n) es
each-put n w [] h = refl
each-put n w (e ∷ es) h = λ i. moved-put n w e h.0 i ∷ each-put n w es h.1 i

seen-put : (f : ℕ → Expr) (es : List ExprValue) → map (λ e. put f (expr_seen e)) es ≡ map (put f) (map expr_seen es)
seen-put f [] = refl
seen-put f (e ∷ es) = ap (λ l. put f (expr_seen e) ∷ l) (seen-put f es)

pub moved-within : (n w : ℕ) (es : List ExprValue) → AreWithin w (map expr_seen es) →
    map (λ e. put (at_place (columns_from n w)) (expr_seen e)) es ≡ map (moved n) (map expr_seen es)
moved-within n w es h = seen-put (at_place (columns_from n w)) es ∙ each-put n w (map expr_seen es) h

-- a test of each expression as it is seen
pub all_seen : (es : List ExprValue) → list_all nulls_on_null (map expr_seen es) ≡ list_all (λ e. nulls_on_null (expr_seen e)) es
all_seen [] = refl
all_seen (e ∷ es) = ap (λ b. nulls_on_null (expr_seen e) && b) (all_seen es)

-- the rest of a list as a slice
pub rest-all : (ps : List PlanValue) (n : ℕ) → take (length ps - n) (drop n ps) ≡ drop n ps
rest-all ps n = let e = length-drop n ps in take_all (length ps - n) (drop n ps) (omega (arith, e))
