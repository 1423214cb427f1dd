-- The plan between the two ends is typed, and from there on all rules lead to theirs.
use Rattle.vkg_plan.specs.Seen.{plan_seen}
use Rattle.vkg_normal.proofs.Normal.{ends_then, keeps_then, keeps_typed}
use Rattle.vkg_normal.proofs.normal_form.normalise.Goals as goal

pub normalise-requires-2 : goal.normalise-requires-2
normalise-requires-2 c = keeps_typed c.args.schema.now (plan_seen c.args.plan) (plan_seen c.in_ok-between.between) c.requires c.in_ok-between.ensures.keeps

pub returns-clause-end : goal.returns-clause-end
returns-clause-end c =
    ends_then c.args.schema.now (plan_seen c.args.plan) (plan_seen c.in_ok-between.between) (plan_seen c.in_ok-end.end) c.in_ok-between.ensures.end c.in_ok-end.ensures.end

pub returns-clause-keeps : goal.returns-clause-keeps
returns-clause-keeps c =
    keeps_then c.args.schema.now (plan_seen c.args.plan) (plan_seen c.in_ok-between.between) (plan_seen c.in_ok-end.end) c.in_ok-between.ensures.keeps c.in_ok-end.ensures.keeps

pub returns-clause-typed : goal.returns-clause-typed
returns-clause-typed c =
    let typed = keeps_typed c.args.schema.now (plan_seen c.args.plan) (plan_seen c.in_ok-between.between) c.requires c.in_ok-between.ensures.keeps in
    keeps_typed c.args.schema.now (plan_seen c.in_ok-between.between) (plan_seen c.in_ok-end.end) typed c.in_ok-end.ensures.keeps
