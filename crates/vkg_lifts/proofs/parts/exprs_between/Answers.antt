-- A projection's expressions are over the columns of the plan below it.
use Rattle.std.proofs.Common.{◌≡◌, ◌∙◌, List, map, sym, ap, subst}
use Rattle.vkg_expr.specs.declared.expr.Expr.{Expr as ExprValue}
use Rattle.vkg_expr.specs.Seen.{expr_seen}
use Rattle.vkg_plan.proofs.SeenParts.{seen-Project}
use Rattle.vkg_plan.specs.declared.plan.Plan.{Plan as PlanValue}
use Rattle.vkg_plan.specs.Kinds.{width}
use Rattle.vkg_plan.specs.Plan.{Project}
use Rattle.vkg_plan.specs.Seen.{plan_seen}
use Rattle.vkg_rules.specs.Steps.{IsTyped}
use Rattle.vkg_lifts.specs.InBetween.{AreWithin}
use Rattle.vkg_lifts.proofs.OwnColumns.{own-within}
use Rattle.vkg_lifts.proofs.parts.exprs_between.Goals as goal

pub in_between-requires : goal.in_between-requires
in_between-requires c =
    let s = c.args.schema.now in
    let es = c.in-Project.es in
    let p = c.in-Project.p in
    let own = c.in_ok-own-in-Project.own in
    let node : plan_seen c.args.p.now ≡ Project (map expr_seen es) (plan_seen p) = ap plan_seen c.in-Project.is ∙ seen-Project es p in
    let within = own-within s (map expr_seen es) (plan_seen p) (subst (IsTyped s) node c.requires) in
    let wide : own ≡ width s (plan_seen p) = c.in_ok-own-in-Project.ensures ∙ ap (λ (v : PlanValue). width s (plan_seen v)) c.deref.ensures in
    subst (λ (l : List ExprValue). AreWithin own (map expr_seen l)) (sym c.as_slice.ensures)
    (subst (λ n. AreWithin n (map expr_seen es)) (sym wide) within)
