-- What is made with the members and the Scans that stand in the left side is made of the left join.
use Rattle.std.proofs.Common.{◌≡◌, ◌∙◌, IfOk, List, [], map, option_map, sym, ap, subst}
use Rattle.vkg_expr.specs.Seen.{expr_seen}
use Rattle.vkg_plan.specs.Plan.{Plan, each, plans}
use Rattle.vkg_plan.specs.Seen.{plan_seen}
use Rattle.vkg_rules.proofs.Seen.{seen-Join}
use Rattle.vkg_rules.specs.StepSeen.{step_seen}
use Rattle.vkg_keys.specs.Members.{Place, first_made, scans}
use Rattle.vkg_keys.specs.ScansSeen.{place_in}
use Rattle.vkg_key_joins.proofs.Listed.{each_plans}
use Rattle.vkg_key_lefts.specs.declared.standing.StandingScan.{StandingScan}
use Rattle.vkg_key_lefts.specs.SelfLeftMember.{with_right, without_again}
use Rattle.vkg_key_lefts.proofs.self_left_member.with_right.Goals as goal

pub returns-in_ok-all-in-Join : goal.returns-in_ok-all-in-Join
returns-in_ok-all-in-Join c =
    let s = c.args.schema.now in
    let es = map expr_seen c.args.es.now in
    let l = plan_seen c.args.l.now in
    let e = expr_seen c.args.c.now in
    let ps = c.in-Join.ps in
    let d = expr_seen c.in-Join.d in
    let seen = ap plan_seen c.in-Join.is ∙ seen-Join ps c.in-Join.d in
    let left = c.as_slice-in-Join-3.ensures ∙ c.in_ok-all-in-Join.ensures in
    let members = c.as_slice-in-Join.ensures ∙ sym c.as_slice.ensures in
    let found : map (place_in c.as_slice-in-Join.result.now) c.as_slice-in-Join-2.result.now ≡ scans [] (each (plans (map plan_seen ps))) =
    (λ i. map (place_in (members i)) (c.as_slice-in-Join-2.ensures i))
    ∙ c.in_ok-found-in-Join.ensures
    ∙ ap (λ qs. scans [] (map plan_seen qs)) c.as_slice.ensures
    ∙ ap (scans []) (sym (each_plans (map plan_seen ps))) in
    subst (λ (q : Plan). IfOk c.over_scans.result (λ o. option_map step_seen o ≡ with_right s es l e q)) (sym seen)
    (subst (λ (xs : List StandingScan). IfOk c.over_scans.result (λ o. option_map step_seen o ≡ first_made (λ y. first_made (without_again s es l d e y) xs) (scans [] (each (plans (map plan_seen ps)))))) left
    (subst (λ (ys : List Place). IfOk c.over_scans.result (λ o. option_map step_seen o ≡ first_made (λ y. first_made (without_again s es l d e y) c.as_slice-in-Join-3.result.now) ys)) found c.over_scans.ensures))
