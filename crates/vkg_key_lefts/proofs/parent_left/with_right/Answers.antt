-- What is made with the Scans that stand in the left side is made of the left join.
use Rattle.std.proofs.Common.{◌≡◌, ◌∙◌, IfOk, List, map, option_map, sym, ap, subst}
use Rattle.vkg_expr.specs.Seen.{expr_seen}
use Rattle.vkg_plan.specs.Plan.{Plan, Scan}
use Rattle.vkg_plan.specs.Seen.{plan_seen}
use Rattle.vkg_rules.specs.StepSeen.{step_seen}
use Rattle.vkg_keys.specs.Members.{first_made}
use Rattle.vkg_key_lefts.specs.declared.standing.StandingScan.{StandingScan}
use Rattle.vkg_key_lefts.specs.ParentLeft.{with_right, without_parent}
use Rattle.vkg_key_lefts.specs.Tables.{references_of}
use Rattle.vkg_key_lefts.proofs.Others.{seen-Scan}
use Rattle.vkg_key_lefts.proofs.parent_left.with_right.Goals as goal

pub returns-in_ok-all-in-Scan : goal.returns-in_ok-all-in-Scan
returns-in_ok-all-in-Scan c =
    let s = c.args.schema.now in
    let es = map expr_seen c.args.es.now in
    let l = plan_seen c.args.l.now in
    let d = expr_seen c.args.c.now in
    let table = c.in-Scan.table in
    let seen : plan_seen c.args.r.now ≡ Scan table = ap plan_seen c.in-Scan.is ∙ seen-Scan table in
    let there = c.as_slice.ensures ∙ c.in_ok-all-in-Scan.ensures in
    subst (λ (q : Plan). IfOk c.over_standing.result (λ o. option_map step_seen o ≡ with_right s es l d q)) (sym seen)
    (subst (λ (xs : List StandingScan). IfOk c.over_standing.result (λ o. option_map step_seen o ≡ first_made (λ x. first_made (without_parent s es l table d x) (references_of s x.table)) xs)) there c.over_standing.ensures)
