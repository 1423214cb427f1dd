-- A plan that is made of parts is seen as made of its parts as they are seen.
use Rattle.std.proofs.Common.{◌≡◌, ◌∙◌, List, map, sym, ap}
use Rattle.vkg_expr.specs.declared.expr.Expr.{Expr as ExprValue}
use Rattle.vkg_expr.specs.Seen.{expr_seen}
use Rattle.vkg_plan.specs.declared.plan.Plan.{Plan as PlanValue}
use Rattle.vkg_plan.specs.declared.plan.Plan.TheFolds.{fold-roll-Plan}
use Rattle.vkg_plan.specs.declared.plan.Plan.TheOpen.{Plan-F}
use Rattle.vkg_plan.specs.declared.plan.Plan.TheVariants as value
use Rattle.vkg_plan.specs.declared.plan.Plan.TheVariants.{rolls-Select, rolls-Project, rolls-Left, rolls-AntiJoin, rolls-UnionAll}
use Rattle.vkg_plan.specs.Plan.{Plan, Select, Project, Left, AntiJoin, UnionAll, plans}
use Rattle.vkg_plan.specs.Seen.{plan_seen, plan_step}

pub seen-Select : (c : ExprValue) (p : PlanValue) → plan_seen (value.Select c p) ≡ Select (expr_seen c) (plan_seen p)
seen-Select c p = ap plan_seen (sym (rolls-Select c p)) ∙ fold-roll-Plan Plan plan_step (Plan-F.Select c p)

pub seen-Project : (es : List ExprValue) (p : PlanValue) → plan_seen (value.Project es p) ≡ Project (map expr_seen es) (plan_seen p)
seen-Project es p = ap plan_seen (sym (rolls-Project es p)) ∙ fold-roll-Plan Plan plan_step (Plan-F.Project es p)

pub seen-Left : (p q : PlanValue) (c : ExprValue) → plan_seen (value.Left p q c) ≡ Left (plan_seen p) (plan_seen q) (expr_seen c)
seen-Left p q c = ap plan_seen (sym (rolls-Left p q c)) ∙ fold-roll-Plan Plan plan_step (Plan-F.Left p q c)

pub seen-AntiJoin : (p q : PlanValue) (c : ExprValue) → plan_seen (value.AntiJoin p q c) ≡ AntiJoin (plan_seen p) (plan_seen q) (expr_seen c)
seen-AntiJoin p q c = ap plan_seen (sym (rolls-AntiJoin p q c)) ∙ fold-roll-Plan Plan plan_step (Plan-F.AntiJoin p q c)

pub seen-UnionAll : (ps : List PlanValue) → plan_seen (value.UnionAll ps) ≡ UnionAll (plans (map plan_seen ps))
seen-UnionAll ps = ap plan_seen (sym (rolls-UnionAll ps)) ∙ fold-roll-Plan Plan plan_step (Plan-F.UnionAll ps)
