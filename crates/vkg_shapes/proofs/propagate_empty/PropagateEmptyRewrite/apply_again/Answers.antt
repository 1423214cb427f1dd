-- The Empty that a member became is dropped, and no other is there.
use Rattle.std.proofs.Common.{◌∙◌, Some, sym, ap}
use Rattle.std.specs.Prelude.{reverse}
use Rattle.vkg_plan.specs.Plan.{UnionAll}
use Rattle.vkg_plan.specs.Seen.{plan_seen}
use Rattle.vkg_rules.specs.declared.rewrite.Fell.TheVariants as fell
use Rattle.vkg_rules.specs.Places.{outcome}
use Rattle.vkg_shapes.proofs.Told.{dropped-is, empty-stays, made_dropped, made_value, stayed}
use Rattle.vkg_shapes.specs.FlatUnion.{members}
use Rattle.vkg_shapes.specs.PropagateEmpty.{propagate_empty}
use Rattle.vkg_shapes.specs.Without.{without_at}
use Rattle.vkg_shapes.proofs.propagate_empty.PropagateEmptyRewrite.apply_again.Goals as goal

pub returns-in-Some-clause-value : goal.returns-in-Some-clause-value
returns-in-Some-clause-value c =
    let s = c.args.schema.now in
    let p = plan_seen c.args.plan in
    let at = c.in-Some.at in
    let here = sym (rw c.deref.ensures at c.dropped_at.ensures) ∙ c.in-Some.is in
    let is = dropped-is s (reverse c.args.place.now) p at c.requires.before here in
    made_value (λ x. plan_seen x.plan) (λ x. x.fell) (UnionAll (without_at at (members p))) (Some fell.Weight) (outcome p (propagate_empty s p)) c.without_member.result
    c.without_member.ensures.plan c.without_member.ensures.fell (sym (ap (outcome p) is.0))

pub returns-in-Some-clause-dropped : goal.returns-in-Some-clause-dropped
returns-in-Some-clause-dropped c =
    let p = plan_seen c.args.plan in
    let at = c.in-Some.at in
    let here = sym (rw c.deref.ensures at c.dropped_at.ensures) ∙ c.in-Some.is in
    let is = dropped-is c.args.schema.now (reverse c.args.place.now) p at c.requires.before here in
    made_dropped (λ x. plan_seen x.plan) (λ x. x.dropped) p (UnionAll (without_at at (members p))) (Some at) c.without_member.result c.without_member.ensures.plan c.without_member.ensures.dropped is.1

pub returns-then-stays-clause-value : goal.returns-then-stays-clause-value
returns-then-stays-clause-value c =
    let s = c.args.schema.now in
    let p = plan_seen c.args.plan in
    let here = sym (rw c.deref-2.ensures at c.stays.ensures) ∙ c.if-stays.true in
    stayed p (plan_seen c.unchanged.result.plan) c.unchanged.result.fell (propagate_empty s p) (ap plan_seen c.unchanged.ensures.plan) c.unchanged.ensures.fell
    (empty-stays s (reverse c.args.place.now) p c.requires.before here)
