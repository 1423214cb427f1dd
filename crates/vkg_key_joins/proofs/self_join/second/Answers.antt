-- What is told of the members of a join is told of the join.
use Rattle.std.proofs.Common.{◌≡◌, ◌∙◌, List, map, sym, ap, subst}
use Rattle.std.specs.Prelude.{IfOk, option_map}
use Rattle.vkg_expr.specs.Seen.{expr_seen}
use Rattle.vkg_plan.specs.declared.plan.Plan.{Plan as PlanValue}
use Rattle.vkg_plan.specs.Plan.{Plan, Join}
use Rattle.vkg_plan.specs.Seen.{plan_seen}
use Rattle.vkg_rules.proofs.Seen.{seen-Join}
use Rattle.vkg_rules.specs.StepSeen.{plans_seen}
use Rattle.vkg_keys.specs.Members.{first_two}
use Rattle.vkg_key_joins.specs.SecondSeen.{step_without}
use Rattle.vkg_key_joins.specs.SelfJoin.{self_join, self_joined}
use Rattle.vkg_key_joins.proofs.Listed.{each_plans}
use Rattle.vkg_key_joins.proofs.self_join.second.Goals as goal

pub returns-in-Join : goal.returns-in-Join
returns-in-Join c =
    let s = c.args.schema.now in
    let ps = c.in-Join.ps in
    let d = expr_seen c.in-Join.c in
    let seen = ap plan_seen c.in-Join.is ∙ seen-Join ps c.in-Join.c in
    let found = subst (λ (l : List PlanValue). IfOk c.second_in.result (λ o. option_map (step_without (Join (plans_seen l) d)) o ≡ first_two (self_joined s d) (map plan_seen l))) c.as_slice.ensures c.second_in.ensures in
    subst (λ (z : Plan). IfOk c.second_in.result (λ o. option_map (step_without z) o ≡ self_join s z)) (sym seen)
    (subst (λ (l : List Plan). IfOk c.second_in.result (λ o. option_map (step_without (Join (plans_seen ps) d)) o ≡ first_two (self_joined s d) l)) (sym (each_plans (map plan_seen ps))) found)
