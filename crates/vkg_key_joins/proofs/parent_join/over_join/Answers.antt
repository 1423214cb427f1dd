-- The members of a join as they are seen.
use Rattle.std.proofs.Common.{◌≡◌, ◌∙◌, IfOk, map, sym, ap, subst}
use Rattle.std.specs.Prelude.{option_map}
use Rattle.vkg_expr.specs.Seen.{expr_seen}
use Rattle.vkg_plan.specs.Seen.{plan_seen}
use Rattle.vkg_rules.proofs.Seen.{seen-Join}
use Rattle.vkg_rules.specs.StepSeen.{step_seen}
use Rattle.vkg_keys.specs.Members.{first_two}
use Rattle.vkg_key_joins.specs.ParentJoin.{over_join, parent_joined}
use Rattle.vkg_key_joins.proofs.Listed.{each_plans}
use Rattle.vkg_key_joins.proofs.parent_join.over_join.Goals as goal

pub returns-in-Join : goal.returns-in-Join
returns-in-Join c =
    let seen = ap plan_seen c.in-Join.is ∙ seen-Join c.in-Join.ps c.in-Join.c in
    let members = ap (map plan_seen) c.as_slice.ensures ∙ sym (each_plans (map plan_seen c.in-Join.ps)) in
    subst (λ q. IfOk c.joined.result (λ o. option_map step_seen o ≡ over_join c.args.schema.now (map expr_seen c.args.es.now) q)) (sym seen)
    (subst (λ l. IfOk c.joined.result (λ o. option_map step_seen o ≡ first_two (parent_joined c.args.schema.now (map expr_seen c.args.es.now) (expr_seen c.in-Join.c)) l)) members c.joined.ensures)
