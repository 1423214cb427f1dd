-- The first Project gives its place to what it projects; without one all stay.
use Rattle.std.proofs.Common.{◌∙◌, List, sym, ap, arith}
use Rattle.vkg_plan.specs.declared.plan.Plan.{Plan as PlanValue}
use Rattle.vkg_plan.specs.Seen.{plan_seen}
use Rattle.vkg_rules.specs.StepSeen.{plans_seen}
use Rattle.vkg_lifts.proofs.FirstBelow.{none_at_all, not_here, opened_here}
use Rattle.vkg_lifts.specs.BelowProjects.{first_below, is_project}
use Rattle.vkg_lifts.proofs.taken_out.unproject_first.Goals as goal

pub returns-then-is_project : goal.returns-then-is_project
returns-then-is_project c =
    opened_here c.loop-i.members c.loop-i.i c.index-members-i.result c.index-members-i-then-is_project.result c.unproject.new.member (omega arith) c.index-members-i.is
    (ap (λ (v : PlanValue). is_project (plan_seen v)) c.index-members-i.is ∙ sym c.is_project.ensures ∙ c.if-is_project.true) c.unproject.ensures c.loop-i.invariant.none
    ∙ ap (λ (l : List PlanValue). first_below (plans_seen l)) c.loop-i.invariant.same

pub loop-i-preserved : goal.loop-i-preserved
loop-i-preserved c =
    record {
      none = not_here c.loop-i.members c.loop-i.i c.index-members-i.result (omega arith) c.index-members-i.is (ap (λ (v : PlanValue). is_project (plan_seen v)) c.index-members-i.is ∙ sym c.is_project.ensures ∙ c.if-is_project.false) c.loop-i.invariant.none;
      same = c.loop-i.invariant.same;
    }

pub returns : goal.returns
returns c =
    none_at_all c.loop-i.members c.loop-i.i (omega arith) c.loop-i.invariant.none ∙ ap (λ (l : List PlanValue). first_below (plans_seen l)) c.loop-i.invariant.same
