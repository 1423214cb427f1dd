-- The part that changed has no Distinct: no other part has one.
use Rattle.std.proofs.Common.{◌∙◌, sym, ap}
use Rattle.std.specs.Prelude.{reverse}
use Rattle.vkg_plan.specs.Seen.{plan_seen}
use Rattle.vkg_shapes.proofs.Told.{stayed}
use Rattle.vkg_unions.proofs.Told.{distinct-stays}
use Rattle.vkg_unions.specs.DistinctDistinct.{distinct_distinct}
use Rattle.vkg_unions.proofs.distinct_distinct.DistinctDistinctRewrite.apply_again.Goals as goal

pub returns-then-same-clause-value : goal.returns-then-same-clause-value
returns-then-same-clause-value c =
    let s = c.args.schema.now in
    let p = plan_seen c.args.plan in
    let here = sym (rw c.deref.ensures at c.in_ok-same.ensures) ∙ c.if-same.true in
    stayed p (plan_seen c.unchanged.result.plan) c.unchanged.result.fell (distinct_distinct s p) (ap plan_seen c.unchanged.ensures.plan) c.unchanged.ensures.fell
    (distinct-stays s (reverse c.args.place.now) p c.requires.before here)
