-- The member that changed is equal to no other: none is equal to an earlier one.
use Rattle.std.proofs.Common.{◌∙◌, sym, ap}
use Rattle.std.specs.Prelude.{reverse}
use Rattle.vkg_plan.specs.Seen.{plan_seen}
use Rattle.vkg_shapes.proofs.Told.{stayed}
use Rattle.vkg_unions.proofs.Told.{equal-stays}
use Rattle.vkg_unions.specs.EqualMembers.{equal_members}
use Rattle.vkg_unions.proofs.equal_members.EqualMembersRewrite.apply_again.Goals as goal

pub returns-then-stays-clause-value : goal.returns-then-stays-clause-value
returns-then-stays-clause-value c =
    let s = c.args.schema.now in
    let p = plan_seen c.args.plan in
    let here = sym (rw c.deref.ensures at c.stays.ensures) ∙ c.if-stays.true in
    stayed p (plan_seen c.unchanged.result.plan) c.unchanged.result.fell (equal_members s p) (ap plan_seen c.unchanged.ensures.plan) c.unchanged.ensures.fell
    (equal-stays s (reverse c.args.place.now) p c.requires.before here)
