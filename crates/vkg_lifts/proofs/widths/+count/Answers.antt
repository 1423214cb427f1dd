-- A union has as many columns as its first member.
use Rattle.std.proofs.Common.{◌≡◌, ◌∙◌}
use Rattle.std.proofs.lemmas.Result.{IfOk-weaker}
use Rattle.vkg_plan.specs.Plan.{UnionAll}
use Rattle.vkg_plan.specs.Seen.{plan_seen}
use Rattle.vkg_rules.specs.StepSeen.{plans_seen}
use Rattle.vkg_lifts.specs.Counted.{counted}
use Rattle.vkg_lifts.proofs.Counting.{counted_first}
use Rattle.vkg_lifts.proofs.widths.+count.Goals as goal

pub count_first-returns-in-len1-up : goal.count_first-returns-in-len1-up
count_first-returns-in-len1-up t c =
    let s = c.args.schema.now in
    let ps = c.args.ps.now in
    IfOk-weaker c.count.result (λ n. n ≡ counted s (plan_seen c.p-item.result)) (λ n. n ≡ counted s (UnionAll (plans_seen ps)))
    (λ n h. h ∙ counted_first s ps c.p-item.result c.in-len1-up.len_at_least c.p-item.is) c.count.ensures
