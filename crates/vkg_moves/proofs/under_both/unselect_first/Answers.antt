-- The first Select gives its place to what it selects from; without one all stay.
use Rattle.std.proofs.Common.{◌∙◌, List, sym, ap, arith}
use Rattle.vkg_plan.specs.declared.plan.Plan.{Plan as PlanValue}
use Rattle.vkg_plan.specs.Seen.{plan_seen}
use Rattle.vkg_rules.specs.StepSeen.{plans_seen}
use Rattle.vkg_moves.proofs.FirstBelow.{none_at_all, not_here, opened_here}
use Rattle.vkg_moves.specs.MergeSelects.{first_below, is_select}
use Rattle.vkg_moves.proofs.under_both.unselect_first.Goals as goal

pub returns-then-is_select : goal.returns-then-is_select
returns-then-is_select c =
    opened_here c.loop-i.members c.loop-i.i c.index-members-i.result c.index-members-i-then-is_select.result c.unselect.new.member (omega arith) c.index-members-i.is
    (ap (λ (v : PlanValue). is_select (plan_seen v)) c.index-members-i.is ∙ sym c.is_select.ensures ∙ c.if-is_select.true) c.unselect.ensures c.loop-i.invariant.none
    ∙ ap (λ (l : List PlanValue). first_below (plans_seen l)) c.loop-i.invariant.same

pub loop-i-preserved : goal.loop-i-preserved
loop-i-preserved c =
    record {
      none = not_here c.loop-i.members c.loop-i.i c.index-members-i.result (omega arith) c.index-members-i.is (ap (λ (v : PlanValue). is_select (plan_seen v)) c.index-members-i.is ∙ sym c.is_select.ensures ∙ c.if-is_select.false) c.loop-i.invariant.none;
      same = c.loop-i.invariant.same;
    }

pub returns : goal.returns
returns c =
    none_at_all c.loop-i.members c.loop-i.i (omega arith) c.loop-i.invariant.none ∙ ap (λ (l : List PlanValue). first_below (plans_seen l)) c.loop-i.invariant.same
