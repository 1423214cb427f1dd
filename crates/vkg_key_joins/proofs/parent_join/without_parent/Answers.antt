-- What is put together is what is defined.
use Rattle.std.proofs.Common.{◌≡◌, ◌∙◌, ◌+◌, IfOk, map, take, drop, ap, subst}
use Rattle.vkg_expr.specs.Seen.{expr_seen}
use Rattle.vkg_plan.specs.Kinds.{width}
use Rattle.vkg_plan.specs.Plan.{Scan}
use Rattle.vkg_plan.specs.Seen.{plan_seen}
use Rattle.vkg_rules.specs.Steps.{Step}
use Rattle.vkg_rules.specs.StepSeen.{step_seen}
use Rattle.vkg_keys.specs.Members.{renamed, widths}
use Rattle.vkg_key_joins.specs.ParentJoin.{all_tied_to, left_joined}
use Rattle.vkg_key_joins.proofs.Listed.{both_seen}
use Rattle.vkg_key_joins.proofs.parent_join.without_parent.Goals as goal

pub returns : goal.returns
returns c =
    let s = c.args.schema.now in
    let before = take c.args.y.at c.args.ps.now in
    let after = drop (c.args.y.at + 1) c.args.ps.now in
    let pairs = c.args.reference.now.pairs in
    let first = ap (map expr_seen) c.as_slice.ensures ∙ c.in_ok-child.ensures in
    let child = ap (map expr_seen) c.as_slice-3.ensures ∙ c.in_ok-child.ensures in
    let names =
    ap (map expr_seen) c.as_slice-2.ensures ∙ c.in_ok-names.ensures
    ∙ ap (λ l. renamed (widths s (map plan_seen before)) (all_tied_to l pairs 0 (width s (Scan c.args.y.table))) (widths s (map plan_seen after))) first in
    let others = ap (map plan_seen) c.in_ok-others.ensures ∙ both_seen before after in
    subst (λ (e : Step). IfOk c.left_joined.result (λ r. step_seen r ≡ e))
    (λ i. left_joined (names i) (map expr_seen c.args.es.now) (others i) (child i) (expr_seen c.args.c.now) pairs)
    c.left_joined.ensures
