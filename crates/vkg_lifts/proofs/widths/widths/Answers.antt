-- As many as are counted.
use Rattle.std.proofs.Common.{◌≡◌, ◌∙◌}
use Rattle.std.proofs.lemmas.Result.{IfOk-weaker}
use Rattle.vkg_rules.specs.StepSeen.{plans_seen}
use Rattle.vkg_lifts.specs.Counted.{counted_beside}
use Rattle.vkg_lifts.specs.LiftProjects.{widths}
use Rattle.vkg_lifts.proofs.Counting.{counted_widths}
use Rattle.vkg_lifts.proofs.widths.widths.Goals as goal

pub returns : goal.returns
returns c =
    let s = c.args.schema.now in
    let ps = plans_seen c.args.ps.now in
    IfOk-weaker c.count_beside.result (λ n. n ≡ counted_beside s ps) (λ n. n ≡ widths s ps) (λ n h. h ∙ counted_widths s ps c.requires) c.count_beside.ensures
