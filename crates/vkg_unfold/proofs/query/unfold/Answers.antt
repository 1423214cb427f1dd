use Rattle.std.proofs.Common.{◌∙◌, ap}
use Rattle.vkg_algebra.specs.Seen.{algebra_seen}
use Rattle.vkg_plan.specs.Seen.{plan_seen}
use Rattle.vkg_unfold.proofs.Stands.{stands_as}
use Rattle.vkg_unfold.proofs.query.unfold.Goals as goal

pub returns-clause-stands : goal.returns-clause-stands
returns-clause-stands c =
    stands_as c.args.schema.now c.args.rules.now (algebra_seen c.args.algebra.now) c.args.mode.now (plan_seen c.into_inner.result) (ap plan_seen c.into_inner.ensures ∙ c.in_ok-plan_over.ensures)
