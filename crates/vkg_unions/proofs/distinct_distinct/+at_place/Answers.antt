-- What is at a place of a list.
use Rattle.std.proofs.Common.{◌≡◌, ◌∙◌}
use Rattle.std.specs.Prelude.{reverse}
use Rattle.std.proofs.lemmas.Result.{IfOk-weaker}
use Rattle.vkg_plan.specs.Seen.{plan_seen}
use Rattle.vkg_rules.specs.StepSeen.{plans_seen}
use Rattle.vkg_unions.proofs.Told.{none-here, none-past}
use Rattle.vkg_unions.specs.DistinctDistinct.{none_at, none_in}
use Rattle.vkg_unions.proofs.distinct_distinct.+at_place.Goals as goal

pub member_has_none-returns-then-ps-at : goal.member_has_none-returns-then-ps-at
member_has_none-returns-then-ps-at t c = none-past c.args.ps.now c.args.at (reverse c.args.place.now) c.if-ps-at.true

pub member_has_none-returns : goal.member_has_none-returns
member_has_none-returns t c =
    let ps = c.args.ps.now in
    let path = reverse c.args.place.now in
    let p = c.index-ps-at.result in
    IfOk-weaker c.has_none_at.result (λ b. b ≡ none_at path (plan_seen p)) (λ b. b ≡ none_in c.args.at path (plans_seen ps)) (λ b h. h ∙ none-here ps c.args.at path p c.if-ps-at.false c.index-ps-at.is)
    c.has_none_at.ensures
