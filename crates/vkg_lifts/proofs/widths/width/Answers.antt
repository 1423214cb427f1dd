-- As many as are counted.
use Rattle.std.proofs.Common.{◌≡◌, ◌∙◌}
use Rattle.std.proofs.lemmas.Result.{IfOk-weaker}
use Rattle.vkg_plan.specs.Kinds.{width}
use Rattle.vkg_plan.specs.Seen.{plan_seen}
use Rattle.vkg_lifts.specs.Counted.{counted}
use Rattle.vkg_lifts.proofs.Counting.{counted_width}
use Rattle.vkg_lifts.proofs.widths.width.Goals as goal

pub returns : goal.returns
returns c =
    let s = c.args.schema.now in
    let p = plan_seen c.args.p.now in
    IfOk-weaker c.count.result (λ n. n ≡ counted s p) (λ n. n ≡ width s p) (λ n h. h ∙ counted_width s p c.requires) c.count.ensures
